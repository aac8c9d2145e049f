-- What each call does to what a device tells, by what it does to the steps.
use Rattle.std.proofs.Common.{◌≡◌, ℕ, Bool, true, false, List, Option, Some, None, sym, ap, subst, refl}
use Rattle.flash_core.specs.May.{Leaves, NoChance}
use Rattle.flash_core.specs.Told.{Told, Operation, fresh, put, halt, settle}
use Rattle.flash_core.proofs.Calls.{may_now}
use Rattle.step_flash.specs.{Device.back_on, Guard.start_with, Steps.under_as}

module _ (u : Option Operation) (live : Bool) (r : Told) where
  -- an erase or a program was stopped
  pub halted : (v : Option Operation) (at : ℕ) (bytes : List ℕ) → v ≡ Some (record { at = at; bytes = bytes })
      → under_as v (back_on live r) ≡ halt at bytes (under_as u (back_on live r))
  unfolding halt
  halted v at bytes is = ap (λ w. under_as w (back_on live r)) is

  -- power comes back
  pub now_back : (under_as None (back_on false r)).now ≡ (under_as u (back_on live r)).now
  unfolding settle fresh
  now_back = at live
    where
      at : (l : Bool) → (under_as None (back_on false r)).now ≡ (under_as u (back_on l r)).now
      at true = refl
      at false = refl

  pub fresh_back : under_as None (back_on false r) ≡ fresh (under_as u (back_on live r)).guard (under_as None (back_on false r)).now
  unfolding settle fresh
  fresh_back = at live
    where
      at : (l : Bool) → under_as None (back_on false r) ≡ fresh (under_as u (back_on l r)).guard (under_as None (back_on false r)).now
      at true = refl
      at false = refl

  pub leaves_back : Leaves (under_as u (back_on live r)) (under_as None (back_on false r)).now
  leaves_back = subst (Leaves (under_as u (back_on live r))) (sym now_back) (may_now (under_as u (back_on live r))).leaves

  pub no_chance_back : NoChance (under_as u (back_on live r)) (under_as None (back_on false r)).now
  no_chance_back = subst (NoChance (under_as u (back_on live r))) (sym now_back) (may_now (under_as u (back_on live r))).no_chance

-- an erase or a program was noted
pub put_noted : (u : Option Operation) (live : Bool) (at : ℕ) (bytes : List ℕ) (r next : Told) → u ≡ None → live ≡ true → next ≡ put at bytes r
    → under_as u (back_on live next) ≡ put at bytes (under_as u (back_on live r))
unfolding put
put_noted None true at bytes r next idle is e = ap (under_as None) e
put_noted None false at bytes r next idle is e = absurd (cc)
put_noted (Some op) live at bytes r next idle is e = absurd (cc)

-- a barrier was noted
pub settle_noted : (u : Option Operation) (live : Bool) (r next : Told) → u ≡ None → live ≡ true → next ≡ settle r
    → under_as u (back_on live next) ≡ settle (under_as u (back_on live r))
unfolding settle fresh
settle_noted None true r next idle is e = ap (under_as None) e
settle_noted None false r next idle is e = absurd (cc)
settle_noted (Some op) live r next idle is e = absurd (cc)

-- before the first step
pub start_idle : (image file : List ℕ) → under_as None (start_with image file) ≡ start_with image file
unfolding fresh
start_idle image file = refl
