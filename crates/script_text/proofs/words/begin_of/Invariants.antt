use Rattle.std.proofs.Common.{◌≡◌, ◌+◌, ◌++◌, ◌==◌, length}
use Rattle.std.specs.Prelude.{option_map}
use Rattle.std.specs.List.{slice_split}
use Rattle.fwu_model.specs.Script.{types_of}
use Rattle.script_text.proofs.words.begin_of.Given as goal

abbrev pub invariant-loop-name : goal.invariant-loop-name
invariant-loop-name l = record {
  types : types_of (slice_split (λ b. b == 32) l.fn.names) ≡ option_map (λ more. l.types.items ++ more) (types_of (slice_split (λ b. b == 32) l.rest));
  count : length (slice_split (λ b. b == 32) l.fn.names) ≡ l._name + length (slice_split (λ b. b == 32) l.rest);
}
