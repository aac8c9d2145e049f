-- What the agent knows is what its flash shows.
use Rattle.std.proofs.Common.{◌≡◌, ℕ, ◌+◌, ◌%◌, Bool, List, Option, Some, refl, sym, ap, ◌∙◌, subst}
use Rattle.std.specs.Option.{option_or}
use Rattle.base_core.specs.Block.{block}
use Rattle.flash_core.specs.{Told.Told, May.Guards}
use Rattle.fwu_formats.specs.{Layout.Layout, Metadata.MetaRead, Metadata.meta_read, Image.deciding}
use Rattle.fwu_model.specs.{Replica.BothHold, State.State, State.update_bank, Sound.Setting, Seen.state_of, Calm.IsCalm}
use Rattle.moves.specs.Moved.{IsReady, IsShown}
use Rattle.moves.proofs.Agree.{bank-count, shown-as, shown-by}
use Rattle.agent_machine.specs.{Fields.Fields, Fields.target, Machine.state_in, Knows.Knows}

pub both-decides : (L : Layout) (image : List ℕ) (r : MetaRead) → BothHold L r image → deciding L image ≡ Some r
unfolding deciding
both-decides L image r both = ap (λ (x : Option MetaRead). option_or x (meta_read L (block 2 image))) both.zero

pub known-shown : (f : Fields) (t : Told) → Knows f t → IsShown f.layout t.now (state_in f t.now)
known-shown f t knows = shown-as f.layout t.now f.meta (state_in f t.now) knows.layout_is (both-decides f.layout t.now f.meta knows.both) refl

pub state-held : (L : Layout) (image : List ℕ) (r : MetaRead) (s : State) → IsShown L image s → BothHold L r image → state_of L image r ≡ s
state-held L image r s shown both = shown-by L image s shown r (both-decides L image r both)

pub known-ready : (E : Setting) (f : Fields) (t : Told) → E.layout ≡ f.layout → Knows f t → IsCalm E t (state_in f t.now) → Guards 1 7 t
    → IsReady E t (state_in f t.now)
known-ready E f t same knows calm guards = record {
  calm = calm;
  guarded = guards;
  one = λ r is.
      let at : deciding f.layout t.now ≡ Some r = ap (λ (l : Layout). deciding l t.now) (sym same) ∙ is in
      let both : ◌≡◌ {A = Option MetaRead} (Some r) (Some f.meta) = sym at ∙ both-decides f.layout t.now f.meta knows.both in
      let e : r ≡ f.meta = cc in
      ap (λ (l : Layout). meta_read l (block 2 t.now)) same ∙ knows.both.one ∙ ap Some (sym e);
}

-- what holds in the settings that have the layout by their form holds in each that has it
pub in-layout : (P : Setting → Type 0) (L : Layout)
    → ((files : List ℕ → Option (List ℕ)) (passes : List ℕ → Bool) → P (record { layout = L; files = files; passes = passes }))
    → (E : Setting) → E.layout ≡ L → P E
in-layout P L here E same =
    subst P (ap (λ (l : Layout). record { layout = l; files = E.files; passes = E.passes }) (sym same)) (here E.files E.passes)

-- the bank that an update is staged in, in the words of what the flash shows
pub update-is : (f : Fields) (now : List ℕ) → update_bank (state_in f now) ≡ target f
update-is f now = ap (λ (n : ℕ). (f.meta.meta.active + 1) % n) (bank-count f.layout now f.meta (state_in f now) refl)
