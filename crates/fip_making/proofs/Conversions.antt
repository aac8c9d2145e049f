-- Packages and capsules that are made of one another.
use Rattle.std.proofs.Common.{◌≡◌, ◌∙◌, List, Some, None, Ok, Err, length, map, refl, sym, ap, ℕ, [], Option, Result}
use Rattle.fwu_formats.specs.{Package.Part, Package.Toc, Capsule.capsule_of, declared.kinds.CapsuleFault.CapsuleFault}
use Rattle.fip_tables.specs.{Packing.zeroed, declared.faults.PackFault.PackFault, Files.Lacks, Files.Tells}
use Rattle.capsule_tables.specs.{Making.capsule_bytes, Making.make_fault, Answers.IsCapsuleAnswer}
use Rattle.capsule_tables.specs.declared.faults.CapsuleStop.{CapsuleStop}
use Rattle.capsule_tables.proofs.{Made.same-make_fault, Within.ends-within}
use Rattle.fip_making.specs.{Payloads.HasEntry, Payloads.file_bytes, declared.stops.Stop.Stop}
use Rattle.fip_making.specs.Values.{enclose_value, and_then, capsule_in, capsule_value, kept_part, pack_value, repackage_value, or_stop, there}
use Rattle.fip_making.specs.declared.stops.Stop.TheVariants as stop
use Rattle.std.specs.Prelude.{unwrap_or}
use Rattle.std.specs.List.{All}
use Rattle.host_io.specs.Contents.{Directory}
use Rattle.capsule_tables.specs.declared.faults.CapsuleStop.TheVariants as read_stop
use Rattle.fip_making.proofs.{Tables.tells as tells-of, Packings.held-entries}
use Rattle.fip_making.proofs.Repacking.{IsOpened, going-on, stopped, table_with}

-- ---- payloads of capsules that are made

-- sizes that fit a capsule, and sizes that don't
module _ (ps os : List Part) (same : map zeroed ps ≡ os) where
  pub encloses-zeroed : make_fault os ≡ None → enclose_value ps ≡ Ok (length ps, capsule_bytes ps)
  unfolding enclose_value
  encloses-zeroed none = let fits : make_fault ps ≡ None = sym (same-make_fault ps) ∙ ap make_fault same ∙ none in rw fits refl

  pub encloses-not : (f : PackFault) → make_fault os ≡ Some f → enclose_value ps ≡ Err (stop.NotPacked f)
  unfolding enclose_value
  encloses-not f is = let fault : make_fault ps ≡ Some f = sym (same-make_fault ps) ∙ ap make_fault same ∙ is in rw fault refl

-- ---- the table of a capsule in a file

abbrev pub table_in : Directory → List ℕ → Result Toc Stop
table_in told name = and_then (capsule_in told name) (λ p. Ok p.1)

abbrev capsule_by : Option (List ℕ) → Result (List ℕ × Toc) Stop
capsule_by o = and_then (there o) (λ bytes. and_then (or_stop stop.NotCapsule (capsule_of bytes)) (λ t. Ok (bytes, t)))

abbrev table_by : Result (List ℕ × Toc) Stop → Result Toc Stop
table_by r = and_then r (λ p. Ok p.1)

-- the capsule that such a table is of
pub record IsEnclosed (told : Directory) (name : List ℕ) (toc : Toc) : Type 0 where
  pub bytes : List ℕ
  pub is : told name ≡ Some bytes
  pub table : capsule_of bytes ≡ Ok toc

pub opened-capsule : (told : Directory) (name : List ℕ) (toc : Toc) → table_in told name ≡ Ok toc → IsEnclosed told name toc
opened-capsule told name toc e = by-file (told name) refl e
  where
    by-table : (bytes : List ℕ) (r : Result Toc CapsuleFault) → told name ≡ Some bytes → capsule_of bytes ≡ r → table_by (and_then (or_stop stop.NotCapsule r) (λ t. Ok (bytes, t))) ≡ Ok toc → IsEnclosed told name toc
    by-table bytes (Err f) is t h = cc
    by-table bytes (Ok found) is t h =
        let same : found ≡ toc = cc in
        record { bytes = bytes; is = is; table = t ∙ ap (λ (x : Toc). Ok x) same }

    by-file : (o : Option (List ℕ)) → told name ≡ o → table_by (capsule_by o) ≡ Ok toc → IsEnclosed told name toc
    by-file None is h = cc
    by-file (Some bytes) is h = by-table bytes (capsule_of bytes) is refl h

pub capsule-ok : (told : Directory) (name bytes : List ℕ) (toc : Toc) → told name ≡ Some bytes → capsule_of bytes ≡ Ok toc → table_in told name ≡ Ok toc
capsule-ok told name bytes toc is table =
    ap (λ (o : Option (List ℕ)). table_by (capsule_by o)) is ∙ ap (λ (r : Result Toc CapsuleFault). table_by (and_then (or_stop stop.NotCapsule r) (λ t. Ok (bytes, t)))) table

-- ---- what a reading gives

lacks-of : (o : Option Directory) (told : Directory) (name : List ℕ) → o ≡ Some told → told name ≡ None → Lacks o name
lacks-of None told name e h = cc
lacks-of (Some d) told name e h = let same : d ≡ told = cc in ap (λ (f : Directory). f name) same ∙ h

module _ (o : Option Directory) (told : Directory) (name : List ℕ) (e : o ≡ Some told) where
  pub table-read : (toc : Toc) → ((bytes : List ℕ) → Tells o name bytes → IsCapsuleAnswer (Ok toc) (capsule_of bytes)) → (Lacks o name → ◌≡◌ {A = Result Toc CapsuleStop} (Ok toc) (Err read_stop.ReadFailed)) → table_in told name ≡ Ok toc
  table-read toc tells missing = go (told name) refl
    where
      go : (b : Option (List ℕ)) → told name ≡ b → table_in told name ≡ Ok toc
      go None is = let no = missing (lacks-of o told name e is) in absurd cc
      go (Some bytes) is = capsule-ok told name bytes toc is (tells bytes (tells-of o told name bytes e is))

-- ---- what its file holds

-- each item's payload is there
pub has-items : (o p : Option Directory) (name : List ℕ) (toc : Toc) → p ≡ o → ((told : Directory) → o ≡ Some told → table_in told name ≡ Ok toc) → All (HasEntry p name) toc.entries
has-items o p name toc same knows =
    held-entries o p name toc.entries same
    (λ told e. let s = opened-capsule told name toc (knows told e) in (s.bytes, s.is, ends-within s.bytes toc s.table))

-- ---- what is made of it

-- a stop of the table is one of what is made
stopped-capsule : {Y : Type 0} (told : Directory) (name : List ℕ) (k : List ℕ × Toc → Result Y Stop) (s : Stop) → table_in told name ≡ Err s → and_then (capsule_in told name) k ≡ Err s
stopped-capsule {Y} told name k s e = go (capsule_in told name) e
  where
    go : (r : Result (List ℕ × Toc) Stop) → table_by r ≡ Err s → and_then r k ≡ Err s
    go (Ok p) h = cc
    go (Err t) h = let same : t ≡ s = cc in ap (λ (x : Stop). Err x) same

pub package-of : (told : Directory) (a : ℕ) (name : List ℕ) (toc : Toc) (o : IsEnclosed told name toc)
    → repackage_value told a name ≡ pack_value toc.serial toc.flags (map (kept_part (file_bytes told name)) toc.entries) a
unfolding repackage_value
package-of told a name toc o =
    let k : List ℕ × Toc → Result (ℕ × List ℕ) Stop = λ p. pack_value p.1.serial p.1.flags (map (kept_part p.0) p.1.entries) a in
    ap (λ (b : Option (List ℕ)). and_then (capsule_by b) k) o.is
    ∙ ap (λ (r : Result Toc CapsuleFault). and_then (and_then (or_stop stop.NotCapsule r) (λ t. Ok (o.bytes, t))) k) o.table
    ∙ ap (λ (f : Option (List ℕ)). k (unwrap_or f [], toc)) (sym o.is)

pub package-err : (told : Directory) (a : ℕ) (name : List ℕ) (s : Stop) → table_in told name ≡ Err s → repackage_value told a name ≡ Err s
unfolding repackage_value
package-err told a name s e = stopped-capsule told name (λ p. pack_value p.1.serial p.1.flags (map (kept_part p.0) p.1.entries) a) s e

pub capsule-of : (told : Directory) (name : List ℕ) (toc : Toc) (o : IsOpened told name [] toc) → capsule_value told name ≡ enclose_value (map (kept_part (file_bytes told name)) toc.entries)
unfolding capsule_value
capsule-of told name toc o = going-on told name [] toc (λ p. enclose_value (map (kept_part p.0) p.1.entries)) o

pub capsule-err : (told : Directory) (name : List ℕ) (s : Stop) → table_with told name [] ≡ Err s → capsule_value told name ≡ Err s
unfolding capsule_value
capsule-err told name s e = stopped told name [] (λ p. enclose_value (map (kept_part p.0) p.1.entries)) s e
