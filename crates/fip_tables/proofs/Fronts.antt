-- What the bytes so far are, by how far their table is read.
use Rattle.std.proofs.Common.{◌≡◌, ℕ, ◌+◌, ◌*◌, ◌≤◌, List, ◌++◌, length, take, drop, sym, ap, ◌∙◌, arith, length-append, length-drop, ◌-◌, ◌<◌, true, false, [], Option, Some, None, Result, Ok, Err, refl, append_assoc, append-nil}
use Rattle.std.proofs.lemmas.List.{take-append-le, drop-append-le, drop-drop}
use Rattle.base_core.specs.Bytes.{num, num_at}
use Rattle.fwu_formats.specs.Package.{Entry, Toc, entry_at, entry_limit, entries_from, is_beyond, toc_of, unless_beyond}
use Rattle.fwu_formats.specs.declared.kinds.FipFault.{FipFault}
use Rattle.fip_tables.specs.{Answers.decided, Answers.has_marker, Answers.lasting, declared.reader.Stage.Stage}
use Rattle.fip_tables.specs.Stream.{entry_from, HasHeader, ReaderHoldsAt, ReadsOn, group_size, met}
use Rattle.fip_tables.specs.declared.reader.Stage.TheVariants.{Header, Table, Whole, Faulty}
use Rattle.std.specs.Prelude.{MatchResult, position}
use Rattle.fwu_formats.specs.declared.kinds.FipFault.TheVariants as fault
use Rattle.fip_tables.proofs.Steps.{by-fault, by-table, no-room, short-header}

-- ---- what stands in the front of bytes stands in whatever begins with them

pub take-front : (bytes rest : List ℕ) (at n : ℕ) → at + n ≤ length bytes → take n (drop at (bytes ++ rest)) ≡ take n (drop at bytes)
take-front bytes rest at n le =
    ap (take n) (drop-append-le at bytes rest (omega (arith, le)))
    ∙ take-append-le n (drop at bytes) rest (omega (arith, le, length-drop at bytes))

pub num-front : (n : ℕ) (bytes rest : List ℕ) (at : ℕ) → at + n ≤ length bytes → num_at n (bytes ++ rest) at ≡ num_at n bytes at
num-front n bytes rest at le = ap num (take-front bytes rest at n le)

pub same-entry : {g h : List ℕ} {o p s t f k : ℕ} → g ≡ h → o ≡ p → s ≡ t → f ≡ k → ◌≡◌ {A = Entry} (record { guid = g; offset = o; size = s; flags = f }) (record { guid = h; offset = p; size = t; flags = k })
same-entry a b c d = cc

pub entry-front : (bytes rest : List ℕ) (i : ℕ) → 16 + 40 * (i + 1) ≤ length bytes → entry_at (bytes ++ rest) i ≡ entry_at bytes i
entry-front bytes rest i le =
    same-entry
    (take-front bytes rest (16 + 40 * i) 16 (omega (arith, le)))
    (num-front 8 bytes rest (16 + 40 * i + 16) (omega (arith, le)))
    (num-front 8 bytes rest (16 + 40 * i + 24) (omega (arith, le)))
    (num-front 8 bytes rest (16 + 40 * i + 32) (omega (arith, le)))

-- the bytes of an entry by themselves
pub entry-of-group : (group bytes : List ℕ) (i : ℕ) → group ≡ drop (16 + 40 * i) bytes → entry_from group 0 ≡ entry_at bytes i
entry-of-group group bytes i is =
    let at = 16 + 40 * i in
    let number : (k : ℕ) → num_at 8 group k ≡ num_at 8 bytes (at + k) = λ k. ap (λ (xs : List ℕ). num (take 8 (drop k xs))) is ∙ ap (λ (xs : List ℕ). num (take 8 xs)) (drop-drop k at bytes) in
    same-entry (ap (take 16) is) (number 16) (number 24) (number 32)

pub header-front : (bytes rest : List ℕ) (toc : Toc) → HasHeader bytes toc → HasHeader (bytes ++ rest) toc
header-front bytes rest toc h = record {
  long = omega (arith, h.long, length-append bytes rest);
  name = num-front 4 bytes rest 0 (omega (arith, h.long)) ∙ h.name;
  some = λ z. h.some (sym (num-front 4 bytes rest 4 (omega (arith, h.long))) ∙ z);
  serial = h.serial ∙ sym (num-front 4 bytes rest 4 (omega (arith, h.long)));
  flags = h.flags ∙ sym (num-front 8 bytes rest 8 (omega (arith, h.long)));
}

-- ---- what the bytes so far are, by how far their table is read

abbrev pub answer_at : Stage → Toc → List ℕ → Result Toc FipFault
answer_at Header toc bytes = Err fault.ShortHeader
answer_at Table toc bytes = Err (fault.NoEnd (length toc.entries))
answer_at Whole toc bytes = unless_beyond bytes toc (position (is_beyond bytes) toc.entries)
answer_at (Faulty f) toc bytes = Err f

same-end : (bytes : List ℕ) → bytes ++ [] ≡ bytes
same-end bytes = append-nil bytes

pub answers : (at : Stage) (toc : Toc) (pending bytes : List ℕ) → length pending < group_size at → ReaderHoldsAt at toc pending bytes → toc_of bytes ≡ answer_at at toc bytes
answers Header toc pending bytes few h = short-header bytes (omega (arith, few, ap length h.0))
answers Table toc pending bytes few h =
    let k = length toc.entries in
    let short : length bytes < 16 + 40 * (k + 1) = omega (arith, few, ap length h.rest, length-drop (16 + 40 * k) bytes, h.place) in
    by-fault bytes toc (fault.NoEnd k) h.header
    (ap (λ (xs : List ℕ). entries_from xs [] 0 entry_limit) (sym (same-end bytes))
    ∙ h.begins [] (entry_limit - k) (omega (arith, h.few))
    ∙ ap (λ (xs : List ℕ). entries_from xs toc.entries k (entry_limit - k)) (same-end bytes)
    ∙ no-room bytes toc.entries k (entry_limit - k) short)
answers Whole toc pending bytes few h =
    by-table bytes toc h.header (ap (λ (xs : List ℕ). entries_from xs [] 0 entry_limit) (sym (same-end bytes)) ∙ h.entries [])
answers (Faulty f) toc pending bytes few h = ap toc_of (sym (same-end bytes)) ∙ h.first []

none-decided : (bytes : List ℕ) (toc : Toc) (at : Option ℕ) → decided (unless_beyond bytes toc at) ≡ Ok tt
none-decided bytes toc None = refl
none-decided bytes toc (Some i) = refl

marked : (bytes : List ℕ) (toc : Toc) (at : Option ℕ) → has_marker (unless_beyond bytes toc at) ≡ true
marked bytes toc None = refl
marked bytes toc (Some i) = refl

unmarked : (f : FipFault) → lasting f ≡ Err f → has_marker (Err f) ≡ false
unmarked fault.ShortHeader h = refl
unmarked fault.BadName h = refl
unmarked fault.ZeroSerial h = refl
unmarked (fault.NoEnd i) h = refl
unmarked fault.TooMany h = refl
unmarked (fault.Duplicate i) h = refl
unmarked (fault.Beyond i) h = absurd cc

pub met-decided : (at : Stage) (toc : Toc) (pending bytes : List ℕ) → length pending < group_size at → ReaderHoldsAt at toc pending bytes → met at ≡ decided (toc_of bytes)
met-decided Header toc pending bytes few h = sym (ap decided (answers Header toc pending bytes few h))
met-decided Table toc pending bytes few h = sym (ap decided (answers Table toc pending bytes few h))
met-decided Whole toc pending bytes few h = sym (ap decided (answers Whole toc pending bytes few h) ∙ none-decided bytes toc (position (is_beyond bytes) toc.entries))
met-decided (Faulty f) toc pending bytes few h = sym (ap decided (answers (Faulty f) toc pending bytes few h) ∙ h.lasts)

pub whole-marked : (toc : Toc) (pending bytes : List ℕ) → length pending < 40 → ReaderHoldsAt Whole toc pending bytes → has_marker (toc_of bytes) ≡ true
whole-marked toc pending bytes few h = ap has_marker (answers Whole toc pending bytes few h) ∙ marked bytes toc (position (is_beyond bytes) toc.entries)

pub other-unmarked : (at : Stage) (toc : Toc) (pending bytes : List ℕ) → (at ≡ Whole → ⊥) → length pending < group_size at → ReaderHoldsAt at toc pending bytes → has_marker (toc_of bytes) ≡ false
other-unmarked Header toc pending bytes other few h = ap has_marker (answers Header toc pending bytes few h)
other-unmarked Table toc pending bytes other few h = ap has_marker (answers Table toc pending bytes few h)
other-unmarked Whole toc pending bytes other few h = absurd (other refl)
other-unmarked (Faulty f) toc pending bytes other few h = ap has_marker (answers (Faulty f) toc pending bytes few h) ∙ unmarked f h.lasts

-- past the table whatever follows changes nothing
pub holds-on : (at : Stage) (toc : Toc) (pending bytes more : List ℕ) → (ReadsOn at → ⊥) → ReaderHoldsAt at toc pending bytes → ReaderHoldsAt at toc pending (bytes ++ more)
holds-on Header toc pending bytes more done h = absurd (done tt)
holds-on Table toc pending bytes more done h = absurd (done tt)
holds-on Whole toc pending bytes more done h = record {
  header = header-front bytes more toc h.header;
  entries = λ rest. ap (λ (xs : List ℕ). entries_from xs [] 0 entry_limit) (append_assoc bytes more rest) ∙ h.entries (more ++ rest);
}
holds-on (Faulty f) toc pending bytes more done h = record {
  first = λ rest. ap toc_of (append_assoc bytes more rest) ∙ h.first (more ++ rest);
  lasts = h.lasts;
}

-- an answer that tells nothing but the fault, of a table that is known
pub as-answered : (result : Result (Unit {0}) FipFault) (whole ends : Result Toc FipFault) (seen toc : Toc) → seen ≡ toc → whole ≡ ends
    → MatchResult result (λ u. ends ≡ Ok seen) (λ f. ends ≡ Err f) → MatchResult result (λ u. whole ≡ Ok toc) (λ f. whole ≡ Err f)
as-answered (Ok u) whole ends seen toc same e h = e ∙ h ∙ ap (λ (t : Toc). Ok t) same
as-answered (Err f) whole ends seen toc same e h = e ∙ h
