use Rattle.std.proofs.Common.{◌≡◌, ◌<◌, List, length, get_or, map, slice_set, Some, sym, ap, subst, ◌∙◌}
use Rattle.std.specs.Prelude.{slice_get}
use Rattle.std.proofs.lemmas.List.{map-set}
use Rattle.fwu_model.specs.Call.{Call}
use Rattle.script_text.specs.{Shown.shown, declared.call.Call.Call as Held}
use Rattle.script_text.proofs.Elements.{shown_at, armable_at, armable_without, buffers_without}
use Rattle.script_text.proofs.script.Script.take.Goals as goal

pub invariant_of-self : goal.invariant_of-self
invariant_of-self c = (
  armable_without c.self.inside.calls.items c.args.index c.replace.new.dest c.replace.ensures.after c.self.invariant.0,
  buffers_without c.self.inside.calls.items c.args.index c.replace.new.dest c.replace.ensures.after c.self.invariant.1,
)

pub returns-clause-call : goal.returns-clause-call
returns-clause-call c =
    let calls = c.self.inside.calls.items in
    let is : c.replace.result ≡ get_or calls c.args.index c.replace.result = rw c.replace.ensures.value c.index_mut.ensures.value in
    let within : c.args.index < length (map shown calls) = subst (λ (l : List Call). c.args.index < length l) (sym c.self.view_is) c.requires in
    subst (λ (l : List Call). slice_get l c.args.index ≡ Some (shown c.replace.result)) c.self.view_is (shown_at calls c.args.index c.replace.result within is)

pub returns-clause-left : goal.returns-clause-left
returns-clause-left c =
    map-set shown c.self.inside.calls.items c.args.index c.replace.new.dest
    ∙ ap (λ (l : List Call). slice_set l c.args.index (shown c.replace.new.dest)) c.self.view_is
    ∙ ap (λ (d : Held). slice_set c.args.self.now c.args.index (shown d)) c.replace.ensures.after

pub returns-clause-armable : goal.returns-clause-armable
returns-clause-armable c =
    let calls = c.self.inside.calls.items in
    let is : c.replace.result ≡ get_or calls c.args.index c.replace.result = rw c.replace.ensures.value c.index_mut.ensures.value in
    armable_at calls c.args.index c.replace.result c.self.invariant.0 (subst (λ (l : List Call). c.args.index < length l) (sym c.self.view_is) c.requires) is
