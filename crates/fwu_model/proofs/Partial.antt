-- Worked values of partial updates, each computed: two images, and a package of the manifest alone.
use Rattle.std.proofs.Common.{◌≡◌, ℕ, true, false, codes, refl, List, [], ◌∷◌, Some, None, Ok, Err, replicate}
use Rattle.sha2.specs.Sha256.{sha256, digest_bytes, hash_after, compress, rounds, schedule, first_words}
use Rattle.fwu_formats.specs.{Layout.dir_guid, Package.packed, Package.toc_of, Package.entries_from}
use Rattle.fwu_formats.specs.Manifest.{manifest_bytes, manifest_of, is_complete, version}
use Rattle.fwu_formats.proofs.Worked.{manifest_guid, tb_fw, nt_fw}
use Rattle.fwu_model.specs.{Sound.Setting, InRow.begin_calls, Script.script_of, Script.line_of, Text.line}
use Rattle.fwu_model.specs.State.{State, Switch, Invalid, Valid, Accepted}
use Rattle.fwu_model.specs.Session.{Session, On, Nothing, Committed, no_handles}
use Rattle.fwu_model.specs.Answer.{answer, answer_begin_partial, answer_send_partial, answered, refused, copied_parts, images_over, first_size_fault}
use Rattle.fwu_model.specs.Call as call
use Rattle.fwu_model.specs.Reply as reply
use Rattle.std.specs.Fmt.{digits}
use Rattle.uuid.specs.Text.{by_index}
use Rattle.fwu_model.specs.declared.kinds.Status.TheVariants as status

abbrev bytes : List ℕ
bytes = codes "hello"

-- a manifest of the one image, of a security version
abbrev manifest : ℕ → List ℕ
manifest security = manifest_bytes (record {
  security = security;
  rows = record { guid = tb_fw; size = 5; version = 1; digest = sha256 bytes } ∷ [];
})

abbrev E : Setting
E = record {
  layout = record { banks = 2; rows = record { guid = manifest_guid; slots = 1 } ∷ record { guid = tb_fw; slots = 2 } ∷ [] };
  files = λ name. Some (packed 0x12345678 0 (record { guid = manifest_guid; flags = 0; bytes = manifest 2 } ∷ []) 1);
  passes = λ m. true;
}

-- bank 0 is accepted, and bank 1 holds nothing
abbrev regular : State
regular = record {
  form = 2;
  active = 0;
  previous = 0;
  banks = record { state = Accepted; bits = true ∷ true ∷ []; held = Some (manifest 1 ∷ bytes ∷ []) }
      ∷ record { state = Invalid; bits = false ∷ false ∷ []; held = None } ∷ [];
  trials = 0;
  counter = 1;
}

abbrev here : Session
here = On 0 None no_handles

-- the same, booted from bank 1, which is on trial
abbrev on_trial : State
on_trial = record {
  form = 2;
  active = 1;
  previous = 0;
  banks = record { state = Accepted; bits = true ∷ true ∷ []; held = Some (manifest 1 ∷ bytes ∷ []) }
      ∷ record { state = Valid; bits = false ∷ true ∷ []; held = Some (manifest 2 ∷ bytes ∷ []) } ∷ [];
  trials = 1;
  counter = 1;
}

-- ---- a partial send

-- where it is on trial, the image that is sent isn't accepted yet, and the one that is copied is
sent :
    (answer E regular here (call.SendPartial (codes "m.fip") 0)
    ≡ answered (reply.SentPartial 1 0 1) (Switch 1 (manifest 2 ∷ bytes ∷ []) (true ∷ true ∷ []) ∷ []) here)
    × (answer E regular here (call.SendPartial (codes "m.fip") 1)
    ≡ answered (reply.SentPartial 1 0 1) (Switch 1 (manifest 2 ∷ bytes ∷ []) (false ∷ true ∷ []) ∷ []) here)
unfolding answer answer_send_partial toc_of entries_from packed images_over first_size_fault is_complete manifest_of manifest_bytes version sha256 digest_bytes hash_after compress rounds schedule first_words
sent = (refl, refl)

-- ---- a partial begin

-- Image 0 is left to be staged, and a type twice is as once. Refused are a type that is no image's, and the directory's. On trial no
-- staging begins, whatever is named.
begun :
    (answer E regular here (call.BeginPartial (manifest_guid ∷ []))
    ≡ answered reply.Success [] (On 0 (Some (Nothing ∷ Committed bytes true ∷ [])) no_handles))
    × (answer E regular here (call.BeginPartial (manifest_guid ∷ manifest_guid ∷ []))
    ≡ answer E regular here (call.BeginPartial (manifest_guid ∷ [])))
    × (answer E regular here (call.BeginPartial (manifest_guid ∷ nt_fw ∷ [])) ≡ refused status.Unknown here)
    × (answer E regular here (call.BeginPartial (dir_guid ∷ [])) ≡ refused status.Unknown here)
    × (answer E on_trial (On 1 None no_handles) (call.BeginPartial (nt_fw ∷ [])) ≡ refused status.Denied (On 1 None no_handles))
unfolding answer answer_begin_partial copied_parts
begun = (refl, refl, refl, refl, refl)

-- the same, call by call: an image that is named isn't copied
calls_of_begin :
    (begin_calls E regular (manifest_guid ∷ []) ≡ call.Begin 0 ∷ call.OpenWrite tb_fw ∷ call.Write 1 bytes ∷ call.Commit 1 0 ∷ [])
    × (begin_calls E regular (tb_fw ∷ manifest_guid ∷ []) ≡ call.Begin 0 ∷ [])
calls_of_begin = (refl, refl)

-- ---- lines

-- sixteen types may be named, and no more
lines_read :
    (script_of (codes "begin\nbegin tb-fw\nsend m.fip trial partial\n")
    ≡ Ok (call.Begin 0 ∷ call.BeginPartial (tb_fw ∷ []) ∷ call.SendPartial (codes "m.fip") 1 ∷ []))
    × (script_of (codes "begin dir dir dir dir dir dir dir dir dir dir dir dir dir dir dir dir\n")
    ≡ Ok (call.BeginPartial (replicate 16 dir_guid) ∷ []))
    × (script_of (codes "begin dir dir dir dir dir dir dir dir dir dir dir dir dir dir dir dir dir\n") ≡ Err 1)
    × (script_of (codes "begin tb-fw 1\n") ≡ Err 1) × (script_of (codes "send m.fip now whole\n") ≡ Err 1)
unfolding script_of line_of by_index
lines_read = (refl, refl, refl, refl, refl)

line_of_sent : line (call.SendPartial (codes "m.fip") 0) (reply.SentPartial 1 0 2) ≡ codes "send SUCCESS images=1 skipped=0 copied=2\n"
unfolding line digits
line_of_sent = refl
