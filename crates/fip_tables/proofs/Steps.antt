-- One more group of the table: what it makes of the entries so far.
use Rattle.std.proofs.Common.{◌≡◌, ◌≢◌, ℕ, zero, suc, ◌+◌, ◌*◌, ◌<◌, ◌≤◌, Bool, true, false, cond, not, ◌==◌, List, [], ◌∷◌, ◌++◌, length, Ok, Err, refl, sym, ap, ◌∙◌, arith, ltb, le-ltb}
use Rattle.std.specs.List.{list_any}
use Rattle.std.specs.Prelude.{position}
use Rattle.base_core.specs.Bytes.{num_at, same_bytes}
use Rattle.fwu_formats.specs.{Layout.nil_guid, declared.kinds.FipFault.FipFault}
use Rattle.fwu_formats.specs.Package.{Entry, Toc, entry_at, entry_limit, entries_from, fip_name, has_guid, is_beyond, toc_of, with_entries, unless_beyond}
use Rattle.fwu_formats.specs.declared.kinds.FipFault.TheVariants as fault
use Rattle.fip_tables.specs.Stream.{HasHeader}

pub takes : {X : Type 0} (b : Bool) (x y z : X) → b ≡ true → x ≡ z → cond b x y ≡ z
takes b x y z e h = rw e h

pub skips : {X : Type 0} (b : Bool) (x y z : X) → b ≡ false → y ≡ z → cond b x y ≡ z
skips b x y z e h = rw e h

pub is-less : (m n : ℕ) → m < n → ltb m n ≡ true
is-less m n lt = grind arith

pub is-equal : (m n : ℕ) → m ≡ n → (m == n) ≡ true
is-equal m n e = grind arith

pub is-other : (m n : ℕ) → m ≢ n → (m == n) ≡ false
is-other m n e = grind arith

-- ---- the entries from a place on

module _ (bytes : List ℕ) (front : List Entry) (i : ℕ) where
  pub no-room : (left : ℕ) → length bytes < 16 + 40 * (i + 1) → entries_from bytes front i left ≡ Err (fault.NoEnd i)
  unfolding entries_from
  no-room zero lt = takes (ltb (length bytes) (16 + 40 * (i + 1))) (Err (fault.NoEnd i)) _ _ (is-less _ _ lt) refl
  no-room (suc left) lt = takes (ltb (length bytes) (16 + 40 * (i + 1))) (Err (fault.NoEnd i)) _ _ (is-less _ _ lt) refl

  module _ (room : 16 + 40 * (i + 1) ≤ length bytes) where
    pub marker-ends : (left : ℕ) → same_bytes (entry_at bytes i).guid nil_guid ≡ true → entries_from bytes front i left ≡ Ok front
    unfolding entries_from
    marker-ends zero nil =
        skips (ltb (length bytes) (16 + 40 * (i + 1))) (Err (fault.NoEnd i)) _ _ (le-ltb (length bytes) (16 + 40 * (i + 1)) room)
        (takes (same_bytes (entry_at bytes i).guid nil_guid) (Ok front) _ _ nil refl)
    marker-ends (suc left) nil =
        skips (ltb (length bytes) (16 + 40 * (i + 1))) (Err (fault.NoEnd i)) _ _ (le-ltb (length bytes) (16 + 40 * (i + 1)) room)
        (takes (same_bytes (entry_at bytes i).guid nil_guid) (Ok front) _ _ nil refl)

    pub another-is-too-many : same_bytes (entry_at bytes i).guid nil_guid ≡ false → entries_from bytes front i zero ≡ Err fault.TooMany
    unfolding entries_from
    another-is-too-many some =
        skips (ltb (length bytes) (16 + 40 * (i + 1))) (Err (fault.NoEnd i)) _ _ (le-ltb (length bytes) (16 + 40 * (i + 1)) room)
        (skips (same_bytes (entry_at bytes i).guid nil_guid) (Ok front) _ _ some refl)

    pub equal-is-duplicate : (left : ℕ) → same_bytes (entry_at bytes i).guid nil_guid ≡ false → list_any (has_guid (entry_at bytes i).guid) front ≡ true
        → entries_from bytes front i (suc left) ≡ Err (fault.Duplicate i)
    unfolding entries_from
    equal-is-duplicate left some equal =
        skips (ltb (length bytes) (16 + 40 * (i + 1))) (Err (fault.NoEnd i)) _ _ (le-ltb (length bytes) (16 + 40 * (i + 1)) room)
        (skips (same_bytes (entry_at bytes i).guid nil_guid) (Ok front) _ _ some
        (takes (list_any (has_guid (entry_at bytes i).guid) front) (Err (fault.Duplicate i)) _ _ equal refl))

    pub new-is-read : (left : ℕ) → same_bytes (entry_at bytes i).guid nil_guid ≡ false → list_any (has_guid (entry_at bytes i).guid) front ≡ false
        → entries_from bytes front i (suc left) ≡ entries_from bytes (front ++ entry_at bytes i ∷ []) (i + 1) left
    unfolding entries_from
    new-is-read left some new =
        skips (ltb (length bytes) (16 + 40 * (i + 1))) (Err (fault.NoEnd i)) _ _ (le-ltb (length bytes) (16 + 40 * (i + 1)) room)
        (skips (same_bytes (entry_at bytes i).guid nil_guid) (Ok front) _ _ some
        (skips (list_any (has_guid (entry_at bytes i).guid) front) (Err (fault.Duplicate i)) _ _ new refl))

-- ---- the header

pub short-header : (bytes : List ℕ) → length bytes < 16 → toc_of bytes ≡ Err fault.ShortHeader
unfolding toc_of
short-header bytes lt = takes (ltb (length bytes) 16) (Err fault.ShortHeader) _ _ (is-less _ _ lt) refl

pub bad-name : (bytes : List ℕ) → 16 ≤ length bytes → num_at 4 bytes 0 ≢ fip_name → toc_of bytes ≡ Err fault.BadName
unfolding toc_of
bad-name bytes long other =
    skips (ltb (length bytes) 16) (Err fault.ShortHeader) _ _ (le-ltb (length bytes) 16 long)
    (takes (not (num_at 4 bytes 0 == fip_name)) (Err fault.BadName) _ _ (ap not (is-other _ _ other)) refl)

pub zero-serial : (bytes : List ℕ) → 16 ≤ length bytes → num_at 4 bytes 0 ≡ fip_name → num_at 4 bytes 4 ≡ 0 → toc_of bytes ≡ Err fault.ZeroSerial
unfolding toc_of
zero-serial bytes long name none =
    skips (ltb (length bytes) 16) (Err fault.ShortHeader) _ _ (le-ltb (length bytes) 16 long)
    (skips (not (num_at 4 bytes 0 == fip_name)) (Err fault.BadName) _ _ (ap not (is-equal _ _ name))
    (takes (num_at 4 bytes 4 == 0) (Err fault.ZeroSerial) _ _ (is-equal _ _ none) refl))

pub by-entries : (bytes : List ℕ) (toc : Toc) → HasHeader bytes toc → toc_of bytes ≡ with_entries bytes (entries_from bytes [] 0 entry_limit)
unfolding toc_of
by-entries bytes toc h =
    skips (ltb (length bytes) 16) (Err fault.ShortHeader) _ _ (le-ltb (length bytes) 16 h.long)
    (skips (not (num_at 4 bytes 0 == fip_name)) (Err fault.BadName) _ _ (ap not (is-equal _ _ h.name))
    (skips (num_at 4 bytes 4 == 0) (Err fault.ZeroSerial) _ _ (is-other _ _ h.some) refl))

pub by-fault : (bytes : List ℕ) (toc : Toc) (f : FipFault) → HasHeader bytes toc → entries_from bytes [] 0 entry_limit ≡ Err f → toc_of bytes ≡ Err f
by-fault bytes toc f h e = by-entries bytes toc h ∙ ap (with_entries bytes) e

same-toc : {s t f g : ℕ} {es : List Entry} → s ≡ t → f ≡ g → ◌≡◌ {A = Toc} (record { serial = s; flags = f; entries = es }) (record { serial = t; flags = g; entries = es })
same-toc a b = cc

pub by-table : (bytes : List ℕ) (toc : Toc) → HasHeader bytes toc → entries_from bytes [] 0 entry_limit ≡ Ok toc.entries
    → toc_of bytes ≡ unless_beyond bytes toc (position (is_beyond bytes) toc.entries)
by-table bytes toc h e =
    by-entries bytes toc h ∙ ap (with_entries bytes) e
    ∙ ap (λ (t : Toc). unless_beyond bytes t (position (is_beyond bytes) toc.entries)) (same-toc (sym h.serial) (sym h.flags))
