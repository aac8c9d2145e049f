use Rattle.std.proofs.Common.{◌∙◌, ap, Some, arith, ◌≡◌, ◌<◌, ◌≤◌, length, List, String, Vec, Global, ℕ}
use Rattle.host_io.specs.Contents.{bytes_in, pairs_of, place_in}
use Rattle.host_io.proofs.Directories.{put_in_place, put_at_end}
use Rattle.host_io.proofs.memory_files.put_bytes.Goals as goal

pub returns-then-i-len-clause-written : goal.returns-then-i-len-clause-written
returns-then-i-len-clause-written c =
    let at : c.place-i.result ≡ place_in (pairs_of c.args.files.now.items) c.args.name.now =
    c.place-i.ensures ∙ ap (λ (l : List (String Global × Vec ℕ Global)). place_in (pairs_of l) c.args.name.now) c.deref.ensures.value in
    let within : c.place-i.result < length c.args.files.now.items = omega (arith, c.args.files.now.ok.0) in
    (put_in_place c.args.files.now.items (c.in_ok-key.key, c.in_ok-copy.copy) c.args.name.now c.place-i.result
    c.in_ok-key.ensures.ok at within).0 ∙ ap Some c.in_ok-copy.ensures.items

pub returns-then-i-len-clause-others : goal.returns-then-i-len-clause-others
returns-then-i-len-clause-others c =
    let at : c.place-i.result ≡ place_in (pairs_of c.args.files.now.items) c.args.name.now =
    c.place-i.ensures ∙ ap (λ (l : List (String Global × Vec ℕ Global)). place_in (pairs_of l) c.args.name.now) c.deref.ensures.value in
    let within : c.place-i.result < length c.args.files.now.items = omega (arith, c.args.files.now.ok.0) in
    (put_in_place c.args.files.now.items (c.in_ok-key.key, c.in_ok-copy.copy) c.args.name.now c.place-i.result
    c.in_ok-key.ensures.ok at within).1

pub returns-in_ok-push-clause-written : goal.returns-in_ok-push-clause-written
returns-in_ok-push-clause-written c =
    let at : c.place-i.result ≡ place_in (pairs_of c.args.files.now.items) c.args.name.now =
    c.place-i.ensures ∙ ap (λ (l : List (String Global × Vec ℕ Global)). place_in (pairs_of l) c.args.name.now) c.deref.ensures.value in
    let beyond : length c.args.files.now.items ≤ c.place-i.result = omega (arith, c.args.files.now.ok.0) in
    ap (λ (l : List (String Global × Vec ℕ Global)). bytes_in (pairs_of l) c.args.name.now) c.in_ok-push.ensures.items
    ∙ (put_at_end c.args.files.now.items (c.in_ok-key.key, c.in_ok-copy.copy) c.args.name.now c.place-i.result
    c.in_ok-key.ensures.ok at beyond).0 ∙ ap Some c.in_ok-copy.ensures.items

pub returns-in_ok-push-clause-others : goal.returns-in_ok-push-clause-others
returns-in_ok-push-clause-others c = λ other differs.
    let at : c.place-i.result ≡ place_in (pairs_of c.args.files.now.items) c.args.name.now =
    c.place-i.ensures ∙ ap (λ (l : List (String Global × Vec ℕ Global)). place_in (pairs_of l) c.args.name.now) c.deref.ensures.value in
    let beyond : length c.args.files.now.items ≤ c.place-i.result = omega (arith, c.args.files.now.ok.0) in
    ap (λ (l : List (String Global × Vec ℕ Global)). bytes_in (pairs_of l) other) c.in_ok-push.ensures.items
    ∙ (put_at_end c.args.files.now.items (c.in_ok-key.key, c.in_ok-copy.copy) c.args.name.now c.place-i.result
    c.in_ok-key.ensures.ok at beyond).1 other differs
