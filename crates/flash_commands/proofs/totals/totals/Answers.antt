use Rattle.std.proofs.Common.{◌≡◌, ◌+◌, ◌++◌, ◌∷◌, ◌<◌, ℕ, List, [], Some, sym, ap, ◌∙◌, arith, length, map, take, subst, get_or}
use Rattle.std.proofs.{lemmas.List.length-take, lemmas.Option.slice_get-get_or, lemmas.Option.slice_get-map}
use Rattle.std.specs.Prelude.{option_map}
use Rattle.std.specs.List.{slice_get}
use Rattle.fwu_journal.specs.{Shown.turn, Shown.turns, declared.journal.Turn.Turn}
use Rattle.gen_core.specs.{Line.totals_of, declared.line.Totals.Totals}
use Rattle.fwu_model.specs.Reply.{Turn as Shown}
use Rattle.flash_commands.specs.Soaking.{AreWithin}
use Rattle.flash_commands.proofs.SoakEnding.{totals-count, totals-none, totals-within}
use Rattle.script_runs.proofs.RunEnds.{take-more}
use Rattle.flash_commands.proofs.totals.totals.Goals as goal

pub loop-index-init : goal.loop-index-init
loop-index-init c = record { so_far = sym totals-none }

pub count-requires-clause-few : goal.count-requires-clause-few
count-requires-clause-few c =
    let so_far = ap (λ (t : Totals). t.turns) c.loop-index.invariant.so_far ∙ totals-count (take c.loop-index.index (turns c.args.journal.now)) in
    let few = length-take c.loop-index.index (turns c.args.journal.now) in
    omega (arith, so_far, few, c.loop-index-test.true)

pub count-requires-clause-within : goal.count-requires-clause-within
count-requires-clause-within c = subst AreWithin (sym c.loop-index.invariant.so_far) (totals-within (take c.loop-index.index (turns c.args.journal.now)))

turn-at : (items : List Turn) (i : ℕ) (x d : Turn) (ts : List Shown) → map turn items ≡ ts → i < length items → x ≡ get_or items i d → slice_get ts i ≡ Some (turn x)
turn-at items i x d ts items_are below is =
    ap (λ (l : List Shown). slice_get l i) (sym items_are) ∙ slice_get-map turn items i ∙ ap (option_map turn) (slice_get-get_or items i d below ∙ ap Some (sym is))

next-totals : (ts : List Shown) (i : ℕ) (x y : Turn) (was now : Totals) → slice_get ts i ≡ Some (turn x) → x ≡ y → was ≡ totals_of (take i ts)
    → ((journal : List Shown) (t : Shown) → was ≡ totals_of journal → t.reply ≡ (turn y).reply → now ≡ totals_of (journal ++ t ∷ [])) → now ≡ totals_of (take (i + 1) ts)
next-totals ts i x y was now at same so_far counts =
    counts (take i ts) (turn x) so_far (ap (λ (z : Turn). (turn z).reply) same) ∙ ap totals_of (take-more Shown ts i (turn x) at)

pub loop-index-preserved : goal.loop-index-preserved
loop-index-preserved c = record {
  so_far = next-totals (turns c.args.journal.now) c.loop-index.index c.index-turns-index.result _ c.loop-index.totals c.count.new.totals
      (turn-at c.turns-turns.result.now c.loop-index.index c.index-turns-index.result _ (turns c.args.journal.now) c.turns-turns.ensures c.loop-index-test.true c.index-turns-index.is) c.index-turns-index.is c.loop-index.invariant.so_far c.count.ensures;
}
