-- Whether a loss is armed, after one call and over several.
use Rattle.std.proofs.Common.{◌≤◌, ◌≡◌, ◌∙◌, refl, ap, subst, Option, None}
use Rattle.std.specs.Prelude.{Result, Ok, Err, IsErrOf}
use Rattle.flash_core.specs.{declared.flash.Arming.Arming, declared.flash.Counts.Counts, declared.flash.FlashStop.FlashStop}
use Rattle.flash_core.specs.declared.flash.FlashStop.TheVariants.{Lost, Failed}
use Rattle.flash_core.specs.Counts.{ReachesNone, StaysUnarmed, Fires, IsDue, arming_kept, arming_spent}
use Rattle.flash_core.proofs.Costs.{rose_earlier}

-- where nothing was called
pub unarmed_none : {T : Type 0} (x : T) (armed : Option Arming) (c : Counts) → StaysUnarmed {T = T} (Ok x) armed armed c c
unarmed_none x armed c = record { spent = λ e. absurd cc; free = λ none. (none, record { same = refl; lost = λ e. absurd cc }) }

-- calls that were done, and one more
pub unarmed_then : {T U : Type 0} (x : T) (result : Result U FlashStop) (a b c : Option Arming) (u v w : Counts) → u.cuts ≤ v.cuts
    → StaysUnarmed {T = T} (Ok x) a b u v → StaysUnarmed result b c v w → StaysUnarmed result a c u w
unarmed_then x result a b c u v w less first second = record {
  spent = second.spent;
  free = λ none.
      let one = first.free none in
      let two = second.free one.0 in
      (two.0, record { same = two.1.same ∙ one.1.same; lost = λ e. rose_earlier u.cuts v.cuts w.cuts less (two.1.lost e) });
}

-- a read or a barrier
pub unarmed_kept : {T : Type 0} (result : Result T FlashStop) (armed arming : Option Arming) (old new : Counts)
    → arming ≡ arming_kept result armed → ReachesNone result old new → StaysUnarmed result armed arming old new
unarmed_kept (Ok x) armed arming old new is reached = record { spent = λ e. absurd cc; free = λ none. (is ∙ none, reached) }
unarmed_kept (Err Lost) armed arming old new is reached = record { spent = λ e. is; free = λ none. (is, reached) }
unarmed_kept (Err Failed) armed arming old new is reached = record { spent = λ e. absurd cc; free = λ none. (is ∙ none, reached) }

-- an erase or a program
pub unarmed_spent : {T : Type 0} (result : Result T FlashStop) (armed arming : Option Arming) (old new : Counts)
    → arming ≡ arming_spent result armed → Fires result armed old new → StaysUnarmed result armed arming old new
unarmed_spent {T = T} result armed arming old new is fires = record {
  spent = λ e. is ∙ by_loss result e;
  free = λ none. (
    is ∙ ap (arming_spent result) none ∙ of_none result,
    record { same = fires.only (λ due. subst IsDue none due.0); lost = fires.lost (λ due. subst IsDue none due) },
  );
}
  where
    by_loss : (r : Result T FlashStop) → IsErrOf r Lost → arming_spent r armed ≡ None
    by_loss (Ok x) e = absurd cc
    by_loss (Err Lost) e = refl
    by_loss (Err Failed) e = absurd cc

    of_none : (r : Result T FlashStop) → arming_spent r None ≡ None
    of_none (Ok x) = refl
    of_none (Err Lost) = refl
    of_none (Err Failed) = refl

-- as of a call that was done, with any value
pub unarmed_done : {T U : Type 0} (result : Result T FlashStop) (y : U) {a b : Option Arming} {u v : Counts}
    → StaysUnarmed result a b u v → StaysUnarmed {T = U} (Ok y) a b u v
unarmed_done result y stays = record {
  spent = λ e. absurd cc;
  free = λ none. let it = stays.free none in (it.0, record { same = it.1.same; lost = λ e. absurd cc });
}

-- a stop, whatever the value would have been
pub unarmed_stopped : {T U : Type 0} (stop : FlashStop) {a b : Option Arming} {u v : Counts}
    → StaysUnarmed {T = T} (Err stop) a b u v → StaysUnarmed {T = U} (Err stop) a b u v
unarmed_stopped Lost stays = record {
  spent = λ e. stays.spent refl;
  free = λ none. let it = stays.free none in (it.0, record { same = it.1.same; lost = λ e. it.1.lost refl });
}
unarmed_stopped Failed stays = record {
  spent = λ e. absurd cc;
  free = λ none. let it = stays.free none in (it.0, record { same = it.1.same; lost = λ e. absurd cc });
}
