-- What the front of a package decides.
use Rattle.std.proofs.Common.{◌≡◌, ◌≢◌, ◌⊎◌, ℕ, zero, suc, ◌+◌, ◌*◌, ◌<◌, ◌≤◌, Bool, true, false, List, [], ◌∷◌, ◌++◌, length, Option, Some, None, Result, Ok, Err, refl, sym, ap, ◌∙◌, arith, inl, inr, length-append, true≢false, eqb, eqb-true, ltb}
use Rattle.std.proofs.lemmas.Bool.{cases_Bool, cases_lt}
use Rattle.std.specs.List.{list_any}
use Rattle.std.specs.Prelude.{position, IsTrue}
use Rattle.base_core.specs.Bytes.{num_at, same_bytes}
use Rattle.fwu_formats.specs.{Layout.nil_guid, declared.kinds.FipFault.FipFault}
use Rattle.fwu_formats.specs.Package.{Entry, Toc, entry_at, entry_limit, entries_from, fip_name, has_guid, is_beyond, toc_of, unless_beyond, with_entries}
use Rattle.fwu_formats.specs.declared.kinds.FipFault.TheVariants as fault
use Rattle.fip_tables.specs.{Again.FaultsStand, Again.TablesStandByLength, Stream.HasHeader}
use Rattle.fip_tables.specs.Answers.{decided, has_marker, lasting}
use Rattle.fip_tables.proofs.Fronts.{entry-front, header-front, num-front}
use Rattle.fip_tables.proofs.Steps.{another-is-too-many, bad-name, by-entries, by-table, equal-is-duplicate, is-equal, marker-ends, new-is-read, no-room, short-header, zero-serial}

-- ---- the entries

-- the entries end before their marker, or are those of whatever continues the bytes
abbrev Stands : List ℕ → List ℕ → List Entry → ℕ → ℕ → Type 0
Stands bytes rest front i left =
    ((j : ℕ) × (entries_from bytes front i left ≡ Err (fault.NoEnd j))) ⊎ (entries_from (bytes ++ rest) front i left ≡ entries_from bytes front i left)

module _ (bytes rest : List ℕ) (front : List Entry) (i : ℕ) (room : 16 + 40 * (i + 1) ≤ length bytes) where
  there : 16 + 40 * (i + 1) ≤ length (bytes ++ rest)
  there = omega (arith, room, length-append bytes rest)

  same : entry_at (bytes ++ rest) i ≡ entry_at bytes i
  same = entry-front bytes rest i room

  nil-there : (b : Bool) → same_bytes (entry_at bytes i).guid nil_guid ≡ b → same_bytes (entry_at (bytes ++ rest) i).guid nil_guid ≡ b
  nil-there b e = ap (λ (x : Entry). same_bytes x.guid nil_guid) same ∙ e

  equal-there : (b : Bool) → list_any (has_guid (entry_at bytes i).guid) front ≡ b → list_any (has_guid (entry_at (bytes ++ rest) i).guid) front ≡ b
  equal-there b e = ap (λ (x : Entry). list_any (has_guid x.guid) front) same ∙ e

  ends-there : (left : ℕ) → same_bytes (entry_at bytes i).guid nil_guid ≡ true → Stands bytes rest front i left
  ends-there left nil = inr (marker-ends (bytes ++ rest) front i there left (nil-there true nil) ∙ sym (marker-ends bytes front i room left nil))

  too-many-there : same_bytes (entry_at bytes i).guid nil_guid ≡ false → Stands bytes rest front i zero
  too-many-there some = inr (another-is-too-many (bytes ++ rest) front i there (nil-there false some) ∙ sym (another-is-too-many bytes front i room some))

  duplicate-there : (left : ℕ) → same_bytes (entry_at bytes i).guid nil_guid ≡ false → list_any (has_guid (entry_at bytes i).guid) front ≡ true → Stands bytes rest front i (suc left)
  duplicate-there left some equal =
      inr (equal-is-duplicate (bytes ++ rest) front i there left (nil-there false some) (equal-there true equal) ∙ sym (equal-is-duplicate bytes front i room left some equal))

  further : (left : ℕ) → same_bytes (entry_at bytes i).guid nil_guid ≡ false → list_any (has_guid (entry_at bytes i).guid) front ≡ false
      → Stands bytes rest (front ++ entry_at bytes i ∷ []) (i + 1) left → Stands bytes rest front i (suc left)
  further left some new more =
      let here = new-is-read bytes front i room left some new in
      let there-too = new-is-read (bytes ++ rest) front i there left (nil-there false some) (equal-there false new)
      ∙ ap (λ (e : Entry). entries_from (bytes ++ rest) (front ++ e ∷ []) (i + 1) left) same in
      elim more [
        | inl e ↦ inl (e.0, here ∙ e.1)
        | inr e ↦ inr (there-too ∙ e ∙ sym here)
      ]

entries-stand : (bytes rest : List ℕ) (front : List Entry) (i left : ℕ) → Stands bytes rest front i left
entries-stand bytes rest front i zero =
    elim (cases_lt (length bytes) (16 + 40 * (i + 1))) [
      | inl lt ↦ inl (i, no-room bytes front i zero lt)
      | inr room ↦
          elim (cases_Bool (same_bytes (entry_at bytes i).guid nil_guid)) [
            | inl nil ↦ ends-there bytes rest front i room zero nil
            | inr some ↦ too-many-there bytes rest front i room some
          ]
    ]
entries-stand bytes rest front i (suc left) =
    let more = entries-stand bytes rest (front ++ entry_at bytes i ∷ []) (i + 1) left in
    elim (cases_lt (length bytes) (16 + 40 * (i + 1))) [
      | inl lt ↦ inl (i, no-room bytes front i (suc left) lt)
      | inr room ↦
          elim (cases_Bool (same_bytes (entry_at bytes i).guid nil_guid)) [
            | inl nil ↦ ends-there bytes rest front i room (suc left) nil
            | inr some ↦
                elim (cases_Bool (list_any (has_guid (entry_at bytes i).guid) front)) [
                  | inl equal ↦ duplicate-there bytes rest front i room left some equal
                  | inr new ↦ further bytes rest front i room left some new more
                ]
          ]
    ]

-- ---- the header

-- a property of the answer, by what stands in the header
by-header : (bytes : List ℕ) (P : Type 0) → (length bytes < 16 → P) → (16 ≤ length bytes → num_at 4 bytes 0 ≢ fip_name → P)
    → (16 ≤ length bytes → num_at 4 bytes 0 ≡ fip_name → num_at 4 bytes 4 ≡ 0 → P) → ((toc : Toc) → HasHeader bytes toc → P) → P
by-header bytes P short bad none good =
    elim (cases_lt (length bytes) 16) [
      | inl lt ↦ short lt
      | inr long ↦
          elim (cases_Bool (eqb (num_at 4 bytes 0) fip_name)) [
            | inr other ↦ bad long (λ e. true≢false (sym (is-equal _ _ e) ∙ other))
            | inl name ↦
                elim (cases_Bool (eqb (num_at 4 bytes 4) 0)) [
                  | inl zero-serial ↦ none long (eqb-true _ _ name) (eqb-true _ _ zero-serial)
                  | inr some ↦
                      good (record { serial = num_at 4 bytes 4; flags = num_at 8 bytes 8; entries = [] })
                      (record { long = long; name = eqb-true _ _ name; some = λ e. true≢false (sym (is-equal _ _ e) ∙ some); serial = refl; flags = refl })
                ]
          ]
    ]

lasting-is : (g f : FipFault) → lasting g ≡ Err f → g ≡ f
lasting-is fault.ShortHeader f e = cc
lasting-is (fault.NoEnd i) f e = cc
lasting-is (fault.Beyond i) f e = cc
lasting-is g f e = cc

-- the answer of bytes with a good header, by what their entries are
undecided : (bytes : List ℕ) (toc : Toc) (o : Option ℕ) (f : FipFault) → decided (unless_beyond bytes toc o) ≡ Err f → ⊥
undecided bytes toc None f e = cc
undecided bytes toc (Some i) f e = cc

faults-by-entries : (bytes rest : List ℕ) (toc : Toc) (f : FipFault) → HasHeader bytes toc → decided (toc_of bytes) ≡ Err f
    → (r : Result (List Entry) FipFault) → entries_from bytes [] 0 entry_limit ≡ r → toc_of (bytes ++ rest) ≡ Err f
faults-by-entries bytes rest toc f h e (Err g) is =
    let here : toc_of bytes ≡ Err g = by-entries bytes toc h ∙ ap (with_entries bytes) is in
    let same : g ≡ f = lasting-is g f (sym (ap decided here) ∙ e) in
    elim (entries-stand bytes rest [] 0 entry_limit) [
      | inl s ↦
          let ends : g ≡ fault.NoEnd s.0 = (let joined : ◌≡◌ {A = Result (List Entry) FipFault} (Err g) (Err (fault.NoEnd s.0)) = sym is ∙ s.1 in cc) in
          let lasts : lasting (fault.NoEnd s.0) ≡ Err f = ap lasting (sym ends) ∙ sym (ap decided here) ∙ e in
          absurd cc
      | inr s ↦ by-entries (bytes ++ rest) toc (header-front bytes rest toc h) ∙ ap (with_entries (bytes ++ rest)) (s ∙ is) ∙ ap Err same
    ]
faults-by-entries bytes rest toc f h e (Ok es) is =
    let full : Toc = record { serial = num_at 4 bytes 4; flags = num_at 8 bytes 8; entries = es } in
    let here : toc_of bytes ≡ unless_beyond bytes full (position (is_beyond bytes) es) = by-entries bytes toc h ∙ ap (with_entries bytes) is in
    absurd (undecided bytes full (position (is_beyond bytes) es) f (sym (ap decided here) ∙ e))

pub faults-stand : FaultsStand
faults-stand bytes rest f e =
    by-header bytes (toc_of (bytes ++ rest) ≡ Err f)
    (λ lt. let none : ◌≡◌ {A = Result (Unit {0}) FipFault} (Ok tt) (Err f) = sym (ap decided (short-header bytes lt)) ∙ e in absurd cc)
    (λ long other.
    let same : fault.BadName ≡ f = lasting-is fault.BadName f (sym (ap decided (bad-name bytes long other)) ∙ e) in
    bad-name (bytes ++ rest) (omega (arith, long, length-append bytes rest)) (λ n. other (sym (num-front 4 bytes rest 0 (omega (arith, long))) ∙ n)) ∙ ap Err same)
    (λ long name none.
    let same : fault.ZeroSerial ≡ f = lasting-is fault.ZeroSerial f (sym (ap decided (zero-serial bytes long name none)) ∙ e) in
    zero-serial (bytes ++ rest) (omega (arith, long, length-append bytes rest)) (num-front 4 bytes rest 0 (omega (arith, long)) ∙ name) (num-front 4 bytes rest 4 (omega (arith, long)) ∙ none) ∙ ap Err same)
    (λ toc h. faults-by-entries bytes rest toc f h e (entries_from bytes [] 0 entry_limit) refl)

-- ---- whole tables

within-any : (a b : List ℕ) (toc : Toc) (o : Option ℕ) → unless_beyond a toc o ≡ unless_beyond b toc o
within-any a b toc None = refl
within-any a b toc (Some i) = refl

beyond-by-length : (a b : List ℕ) (es : List Entry) → length a ≡ length b → position (is_beyond a) es ≡ position (is_beyond b) es
beyond-by-length a b es same = ap (λ (n : ℕ). position (λ (e : Entry). ltb n (e.offset + e.size)) es) same

same-length : (bytes gap other : List ℕ) → length gap ≡ length other → length (bytes ++ gap) ≡ length (bytes ++ other)
same-length bytes gap other same = omega (arith, length-append bytes gap, length-append bytes other, same)

-- an answer that isn't for want of an end is that of whatever continues the bytes
entries-go-on : (bytes rest : List ℕ) (toc : Toc) → HasHeader bytes toc → IsTrue (has_marker (toc_of bytes)) → entries_from (bytes ++ rest) [] 0 entry_limit ≡ entries_from bytes [] 0 entry_limit
entries-go-on bytes rest toc h marked =
    elim (entries-stand bytes rest [] 0 entry_limit) [
      | inl s ↦ absurd (true≢false (sym marked ∙ ap has_marker (by-entries bytes toc h ∙ ap (with_entries bytes) s.1)))
      | inr s ↦ s
    ]

tables-by-entries : (bytes gap other : List ℕ) (toc : Toc) → HasHeader bytes toc → length gap ≡ length other
    → (r : Result (List Entry) FipFault) → entries_from (bytes ++ gap) [] 0 entry_limit ≡ r → entries_from (bytes ++ other) [] 0 entry_limit ≡ r
    → toc_of (bytes ++ gap) ≡ toc_of (bytes ++ other)
tables-by-entries bytes gap other toc h long (Err g) a b =
    by-entries (bytes ++ gap) toc (header-front bytes gap toc h) ∙ ap (with_entries (bytes ++ gap)) a
    ∙ sym (by-entries (bytes ++ other) toc (header-front bytes other toc h) ∙ ap (with_entries (bytes ++ other)) b)
tables-by-entries bytes gap other toc h long (Ok es) a b =
    let full : Toc = record { serial = toc.serial; flags = toc.flags; entries = es } in
    let header : HasHeader bytes full = record { long = h.long; name = h.name; some = h.some; serial = h.serial; flags = h.flags } in
    by-table (bytes ++ gap) full (header-front bytes gap full header) a
    ∙ ap (unless_beyond (bytes ++ gap) full) (beyond-by-length (bytes ++ gap) (bytes ++ other) es (same-length bytes gap other long))
    ∙ within-any (bytes ++ gap) (bytes ++ other) full (position (is_beyond (bytes ++ other)) es)
    ∙ sym (by-table (bytes ++ other) full (header-front bytes other full header) b)

pub tables-stand : TablesStandByLength
tables-stand bytes gap other marked same =
    by-header bytes (toc_of (bytes ++ gap) ≡ toc_of (bytes ++ other))
    (λ lt. absurd (true≢false (sym marked ∙ ap has_marker (short-header bytes lt))))
    (λ long bad. absurd (true≢false (sym marked ∙ ap has_marker (bad-name bytes long bad))))
    (λ long name none. absurd (true≢false (sym marked ∙ ap has_marker (zero-serial bytes long name none))))
    (λ toc h. tables-by-entries bytes gap other toc h same (entries_from bytes [] 0 entry_limit) (entries-go-on bytes gap toc h marked) (entries-go-on bytes other toc h marked))
