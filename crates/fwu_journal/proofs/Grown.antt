-- Texts that grew, and grow again.
use Rattle.std.proofs.Common.{ℕ, List, ◌++◌, ap, sym, subst, ◌∙◌, append_assoc, length-append, arith}
use Rattle.std.specs.Prelude.{Vec}
use Rattle.std.specs.Global.{Global}
use Rattle.fwu_journal.specs.Room.{Grows}

pub grows-then : {a b c : Vec ℕ Global} {xs ys : List ℕ} → Grows a b xs → Grows b c ys → Grows a c (xs ++ ys)
grows-then {a = a} {b = b} {c = c} {xs = xs} {ys = ys} first second = record {
  items = second.items ∙ ap (λ (l : List ℕ). l ++ ys) first.items ∙ append_assoc a.items xs ys;
  len = omega (arith, first.len, second.len, length-append xs ys);
  room = omega (arith, first.room, second.room);
}

pub grows-pair : {a b c : Vec ℕ Global} (xs ys zs : List ℕ) → Grows a b xs → Grows b c (ys ++ zs) → Grows a c (xs ++ ys ++ zs)
grows-pair {a = a} {c = c} xs ys zs first second = subst (Grows a c) (sym (append_assoc xs ys zs)) (grows-then first second)
