use Rattle.std.proofs.Common.{◌∷◌, [], ◌++◌, List, ap, sym, ◌∙◌, arith}
use Rattle.std.proofs.lemmas.List.FromFn.{filter_of_map_range_with_len_more}
use Rattle.std.specs.Prelude.{filter, cond}
use Rattle.base_core.specs.Bytes.{listed, same_bytes}
use Rattle.gpt_core.specs.PlacesOf.{Partition, partition_at}
use Rattle.gpt_core.proofs.partitions.of_type.Goals as goal

pub loop-i-preserved : goal.loop-i-preserved
loop-i-preserved c =
    let kind = c.args.kind.now in
    let entries = c.as_slice-entries.result.now in
    let i = c.loop-i.i in
    c.in_ok-add_if.ensures
    ∙ ap (λ (xs : List Partition). xs ++ cond (same_bytes c.partition_of-partition.result.kind kind) (c.partition_of-partition.result ∷ []) []) c.loop-i.invariant
    ∙ ap (λ (q : Partition). filter (λ r. same_bytes r.kind kind) (listed i (partition_at entries)) ++ cond (same_bytes q.kind kind) (q ∷ []) []) c.partition_of-partition.ensures
    ∙ sym (filter_of_map_range_with_len_more (λ r. same_bytes r.kind kind) (partition_at entries) 0 i i (omega arith))
