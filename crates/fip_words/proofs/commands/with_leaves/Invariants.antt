use Rattle.std.proofs.Common.{◌≡◌, drop}
use Rattle.clap.specs.Words.{App}
use Rattle.clap_words.specs.Words.{IsApp}
use Rattle.fip_words.specs.Arguments.{with_leaves}
use Rattle.fip_words.proofs.commands.with_leaves.Given as goal

-- what was built so far, with the commands that are left, is the whole
abbrev pub invariant-loop-leaf : goal.invariant-loop-leaf
invariant-loop-leaf l =
    (a : App) → IsApp l.fn.command a
    → (b : App) × IsApp l.command b × (with_leaves b (drop l.leaf-index l.leaves) ≡ with_leaves a l.leaves)
