-- What the headers of a capsule say.
use Rattle.std.proofs.Common.{◌≡◌, ◌≤◌, ◌+◌, ℕ, List, take, drop, ap, ◌∙◌, sym, subst, Result, Err, ◌<◌, Bool, true, false, cond, not, length, refl, arith, Ok, Option, Some, None, ltb, le-ltb}
use Rattle.base_core.specs.Bytes.{num, num_at, same_bytes}
use Rattle.fip_tables.proofs.{Told.part_of, Steps.is-less, Steps.skips, Steps.takes}
use Rattle.std.specs.Prelude.{IsErrAnd, IfSome, nat_lt}
use Rattle.std.proofs.lemmas.Result.{err_from_is_err_and}
use Rattle.capsule_tables.specs.{Answers.IsCapsuleAnswer, declared.faults.CapsuleStop.CapsuleStop}
use Rattle.capsule_tables.specs.Ranges.{IsOfHeaders, IsRead, header_read, headers_read, item_read, shape_read, then_shape}
use Rattle.fwu_formats.specs.{declared.kinds.CapsuleFault.CapsuleFault, Package.Entry}
use Rattle.fwu_formats.specs.Capsule.{Shape, fmp_guid, has_sizes, shape_in, shape_of, swapped}
use Rattle.capsule_tables.specs.declared.faults.CapsuleStop.TheVariants as stop
use Rattle.fwu_formats.specs.declared.kinds.CapsuleFault.TheVariants as fault

-- ---- what a range of bytes says is what they say at its place

pub num_in : (bytes : List ℕ) (at n k count : ℕ) → k + count ≤ n → num_at count (take n (drop at bytes)) k ≡ num_at count bytes (at + k)
num_in bytes at n k count fits = ap num (part_of bytes at n k count fits)

-- ---- answers that are handed on

-- a fault that is handed on is the answer
pub fault-answers : {T : Type 0} (r : Result T CapsuleStop) (f : CapsuleFault) (answer : Result T CapsuleFault) → IsErrAnd r (λ s. s ≡ stop.Fault f) → answer ≡ Err f → IsCapsuleAnswer r answer
fault-answers r f answer is found =
    let p = err_from_is_err_and r is in
    let same : Err (stop.Fault f) ≡ r = sym (p.1 ∙ ap Err p.2) in
    subst (λ x. IsCapsuleAnswer x answer) same found

-- a stop is an answer wherever its fault is
pub stop-answers : {T U : Type 0} (r : Result T CapsuleStop) (s : CapsuleStop) (one : Result U CapsuleFault) (answer : Result T CapsuleFault)
    → r ≡ Err s → IsCapsuleAnswer {T = U} (Err s) one → ((f : CapsuleFault) → one ≡ Err f → answer ≡ Err f) → IsCapsuleAnswer r answer
stop-answers r (stop.Fault f) one answer is found more = subst (λ x. IsCapsuleAnswer x answer) (sym is) (more f found)
stop-answers r stop.ReadFailed one answer is found more = subst (λ x. IsCapsuleAnswer x answer) (sym is) tt

pub handed-on : {T : Type 0} (r : Result T CapsuleStop) (s : CapsuleStop) → IsErrAnd r (λ x. x ≡ s) → r ≡ Err s
handed-on r s is = let p = err_from_is_err_and r is in p.1 ∙ ap Err p.2

-- ---- the headers, read range by range

pub too-short : (bytes : List ℕ) → length bytes < 28 → shape_of bytes ≡ Err fault.ShortHeader
unfolding shape_of
too-short bytes lt = takes (ltb (length bytes) 28) (Err fault.ShortHeader) _ _ (is-less _ _ lt) refl

-- three tests, and what stands behind them
abbrev three : {X : Type 0} → Bool → Bool → Bool → CapsuleFault → CapsuleFault → CapsuleFault → Result X CapsuleFault → Result X CapsuleFault
three a b d e f g last = cond a (Err e) (cond b (Err f) (cond d (Err g) last))

three-err : {X Y : Type 0} (a b d : Bool) (e f g fault : CapsuleFault) (x : X) (last : Result Y CapsuleFault) → three a b d e f g (Ok x) ≡ Err fault → three a b d e f g last ≡ Err fault
three-err true b d e f g fault x last h = let same : e ≡ fault = cc in ap Err same
three-err false true d e f g fault x last h = let same : f ≡ fault = cc in ap Err same
three-err false false true e f g fault x last h = let same : g ≡ fault = cc in ap Err same
three-err false false false e f g fault x last h = absurd cc

three-ok : {X Y : Type 0} (a b d : Bool) (e f g : CapsuleFault) (x y : X) (last : Result Y CapsuleFault) → three a b d e f g (Ok x) ≡ Ok y → (x ≡ y) × (three a b d e f g last ≡ last)
three-ok true b d e f g x y last h = absurd cc
three-ok false true d e f g x y last h = absurd cc
three-ok false false true e f g x y last h = absurd cc
three-ok false false false e f g x y last h = let same : x ≡ y = cc in (same, refl)

module _ (bytes : List ℕ) (long : 28 ≤ length bytes) where
  abbrev head : List ℕ
  head = take 28 (drop 0 bytes)

  abbrev header : ℕ
  header = num_at 4 bytes 16

  abbrev end : ℕ
  end = num_at 4 bytes 24

  abbrev fields : List ℕ
  fields = take 8 (drop header bytes)

  at-header : num_at 4 head 16 ≡ header
  at-header = num_in bytes 0 28 16 4 (omega arith)

  at-end : num_at 4 head 24 ≡ end
  at-end = num_in bytes 0 28 24 4 (omega arith)

  front : take 16 head ≡ take 16 bytes
  front = part_of bytes 0 28 0 16 (omega arith)

  abbrev no-guid : Bool
  no-guid = not (same_bytes (take 16 bytes) (swapped fmp_guid))

  abbrev bad-size : Bool
  bad-size = not (has_sizes (shape_in bytes) (length bytes))

  abbrev no-room : Bool
  no-room = nat_lt end (header + 8)

  -- the header by its own bytes
  header-is : header_read head (length bytes) ≡ three no-guid bad-size no-room fault.NotFmp fault.BadSize fault.ShortFmp (Ok (header, end))
  header-is = rw (at-header, at-end, front) refl

  shape-is : shape_of bytes ≡ three no-guid bad-size no-room fault.NotFmp fault.BadSize fault.ShortFmp (shape_read header end fields)
  unfolding shape_of
  shape-is =
      let a : num_at 4 fields 0 ≡ num_at 4 bytes (header + 0) = num_in bytes header 8 0 4 (omega arith) in
      let z : header + 0 ≡ header = omega arith in
      let b : num_at 2 fields 4 ≡ num_at 2 bytes (header + 4) = num_in bytes header 8 4 2 (omega arith) in
      let d : num_at 2 fields 6 ≡ num_at 2 bytes (header + 6) = num_in bytes header 8 6 2 (omega arith) in
      skips (ltb (length bytes) 28) (Err fault.ShortHeader) _ _ (le-ltb (length bytes) 28 long) (rw (a, z, b, d) refl)

  pub header-fault : (f : CapsuleFault) → header_read head (length bytes) ≡ Err f → shape_of bytes ≡ Err f
  header-fault f h = shape-is ∙ three-err no-guid bad-size no-room _ _ _ f (header, end) _ (sym header-is ∙ h)

  pub header-passes : (h e : ℕ) → header_read head (length bytes) ≡ Ok (h, e) → shape_of bytes ≡ shape_read h e (take 8 (drop h bytes))
  header-passes h e is =
      let both = three-ok no-guid bad-size no-room _ _ _ (header, end) (h, e) (shape_read header end fields) (sym header-is ∙ is) in
      let one : header ≡ h = ap (λ (r : ℕ × ℕ). r.0) both.0 in
      let two : end ≡ e = ap (λ (r : ℕ × ℕ). r.1) both.0 in
      shape-is ∙ both.1 ∙ rw (one, two) refl

-- ---- what was read, on any files

module _ (size : ℕ) (head fields : List ℕ) (long : 28 ≤ size) where
  by_header : headers_read size head fields ≡ then_shape (header_read head size) fields
  by_header = ap (λ (b : Bool). cond b (Err fault.ShortHeader) (then_shape (header_read head size) fields)) (le-ltb size 28 long)

  -- a fault of the file's header
  pub of-header : (r : Result Shape CapsuleStop) (f : CapsuleFault) → IsErrAnd r (λ s. s ≡ stop.Fault f) → header_read head size ≡ Err f → IsOfHeaders r
  of-header r f is found = record {
    size = size;
    head = head;
    fields = fields;
    answer = fault-answers r f (headers_read size head fields) is (by_header ∙ ap (λ (h : Result (ℕ × ℕ) CapsuleFault). then_shape h fields) found);
  }

  -- and what the payloads' header says
  module _ (h e : ℕ) (passes : header_read head size ≡ Ok (h, e)) where
    by_fields : headers_read size head fields ≡ shape_read h e fields
    by_fields = by_header ∙ ap (λ (x : Result (ℕ × ℕ) CapsuleFault). then_shape x fields) passes

    pub of-fields : (r : Result Shape CapsuleStop) (f : CapsuleFault) → IsErrAnd r (λ s. s ≡ stop.Fault f) → shape_read h e fields ≡ Err f → IsOfHeaders r
    of-fields r f is found = record {
      size = size;
      head = head;
      fields = fields;
      answer = fault-answers r f (headers_read size head fields) is (by_fields ∙ found);
    }

    pub of-shape : (s : Shape) → shape_read h e fields ≡ Ok s → IsOfHeaders (Ok s)
    of-shape s found = record { size = size; head = head; fields = fields; answer = by_fields ∙ found }

-- an item that was read
pub of-item : (s : Shape) (o : Option Entry) (at : ℕ) (head : List ℕ) → o ≡ item_read s at head → IfSome o (IsRead s)
of-item s None at head is = tt
of-item s (Some e) at head is = record { at = at; head = head; is = sym is }
