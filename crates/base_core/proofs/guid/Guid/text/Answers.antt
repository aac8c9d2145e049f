use Rattle.std.proofs.Common.{◌≡◌, ◌∙◌, ap, length, arith}
use Rattle.uuid.proofs.TextLemmas.{by_index_length}
use Rattle.base_core.proofs.guid.Guid.text.Goals as goal

pub copy_from_slice-requires : goal.copy_from_slice-requires
copy_from_slice-requires c =
    let long : length c.as_bytes.result.now ≡ 36 =
    ap length (c.as_bytes.ensures.value ∙ c.encode_lower-text.ensures.text) ∙ by_index_length 36 _ in
    omega arith
