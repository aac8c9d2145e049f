use Rattle.std.proofs.Common.{◌≡◌, ◌≤◌, ◌-◌, ◌∙◌, ap, arith, Err, length, min}
use Rattle.std.proofs.lemmas.List.{length-take-le}
use Rattle.allow_list.proofs.read.add_line.Goals as goal

pub returns-in-Ok-clause-added : goal.returns-in-Ok-clause-added
returns-in-Ok-clause-added g c =
    let least : c.min-count.result ≤ 65 = omega (arith, c.min-count.ensures) in
    let size : length c.read_at.new.out ≡ c.min-count.result = c.read_at.auto.out ∙ length-take-le c.min-count.result _ least in
    let count : length c.read_at.new.out ≡ min 65 (c.args.size - c.args.at) = omega (arith, size, c.min-count.ensures) in
    record { piece = c.read_at.new.out; here = record { count = count; range = c.in_ok-read_at.ensures.bytes }; added = c.in-Ok.ensures.added }

pub returns-in-Err-NoDigest-clause-bad : goal.returns-in-Err-NoDigest-clause-bad
returns-in-Err-NoDigest-clause-bad g c = λ line e.
    let least : c.min-count.result ≤ 65 = omega (arith, c.min-count.ensures) in
    let size : length c.read_at.new.out ≡ c.min-count.result = c.read_at.auto.out ∙ length-take-le c.min-count.result _ least in
    let count : length c.read_at.new.out ≡ min 65 (c.args.size - c.args.at) = omega (arith, size, c.min-count.ensures) in
    let same : line ≡ c.args.number = cc in (
      same,
      record {
        piece = c.read_at.new.out;
        here = record { count = count; range = c.in_ok-read_at.ensures.bytes };
        none = c.in-Err-NoDigest.ensures.bad (ap Err c.in-Err-NoDigest.field-0-is);
      },
    )
