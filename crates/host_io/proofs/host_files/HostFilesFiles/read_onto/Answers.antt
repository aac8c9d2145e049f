use Rattle.std.proofs.Common.{◌≡◌, ◌++◌, sym, ap, ◌∙◌, arith, drop, take, length-drop, List, ℕ}
use Rattle.std.proofs.lemmas.List.{take-append-drop}
use Rattle.host_io.proofs.host_files.HostFilesFiles.read_onto.Goals as goal

-- what stands behind the old bytes is what was read
pub returns-in-Ok-clause-bytes : goal.returns-in-Ok-clause-bytes
returns-in-Ok-clause-bytes g c =
    let before = c.len-before.result in
    let now = c.append.new.out.items in
    let front : take before now ≡ c.args.out.now.items =
    ap (λ (n : ℕ). take n now) c.len-before.ensures ∙ c.append.ensures.front in record {
      piece = drop before now;
      size = omega (arith, length-drop before now, c.append.new.out.ok.0, c.in-Ok.ensures.grown);
      range = tt;
      added = sym (take-append-drop before now) ∙ ap (λ (l : List ℕ). l ++ drop before now) front;
    }
