use Rattle.std.proofs.Common.{All, ◌≡◌, ◌∙◌, ◌+◌, ◌++◌, ◌∷◌, [], ◌<◌, ℕ, true, false, List, Option, None, Ok, length, ap, sym, subst, arith, ◌≤◌, length-append}
use Rattle.capsule_tables.specs.{Ranges.IsRead, Answers.AreEntries}
use Rattle.std.proofs.lemmas.List.Elements.{All-push}
use Rattle.std.specs.Prelude.{IfSome}
use Rattle.std.specs.List.{list_any}
use Rattle.host_io.specs.Contents.{Directory}
use Rattle.fwu_formats.specs.{Package.Entry, Package.has_guid, Capsule.Shape, Capsule.entries_in, Capsule.item_fault}
use Rattle.host_io.proofs.Reading.{reads-then}
use Rattle.fip_tables.specs.Files.{Tells}
use Rattle.capsule_tables.proofs.OneByOne.{bad, entries-more, entry-is, fine, further, one-more, passes-all, repeated, stops-at}
use Rattle.capsule_tables.proofs.items.read_items.Goals as goal

pub returns-in_default-clause-told : goal.returns-in_default-clause-told
returns-in_default-clause-told g c = λ bytes told.
    let later = subst (λ (o : Option Directory). Tells o c.args.name.now bytes) (sym c.loop-i.invariant.reads.same) told in
    let s = c.args.shape.now in
    let i = c.loop-i.i in
    let lt = subst (λ (x : Shape). i < x.items) c.shape.view_is c.loop-i-test.true in
    stops-at bytes s i _ lt (c.loop-i.invariant.fine_so_far bytes told) (bad bytes s i (sym (c.in_ok-entry.ensures.told bytes later) ∙ c.in_default.is))

pub returns-then-has-clause-told : goal.returns-then-has-clause-told
returns-then-has-clause-told g c = λ bytes told.
    let later = subst (λ (o : Option Directory). Tells o c.args.name.now bytes) (sym c.loop-i.invariant.reads.same) told in
    let s = c.args.shape.now in
    let i = c.loop-i.i in
    let e = c.in-Some.entry in
    let lt = subst (λ (x : Shape). i < x.items) c.shape.view_is c.loop-i-test.true in
    let any : list_any (has_guid e.guid) (entries_in bytes s i) ≡ true =
    ap (list_any (has_guid e.guid)) (sym (c.loop-i.invariant.entries_are bytes told))
    ∙ ap (λ (x : Entry). list_any (has_guid x.guid) c.loop-i.entries) (sym c.entry.view_is) ∙ sym c.has.ensures ∙ c.if-has.true in
    stops-at bytes s i _ lt (c.loop-i.invariant.fine_so_far bytes told)
    (repeated bytes s i e (sym (c.in_ok-entry.ensures.told bytes later) ∙ c.in-Some.is) any)

pub loop-i-preserved : goal.loop-i-preserved
loop-i-preserved g c =
    let s = c.args.shape.now in
    let i = c.loop-i.i in
    let es = c.loop-i.entries in
    let e : Entry = c.in-Some.entry in
    let none : list_any (has_guid e.guid) es ≡ false = ap (λ (x : Entry). list_any (has_guid x.guid) es) (sym c.entry.view_is) ∙ sym c.has.ensures ∙ c.if-has.false in
    let before = λ (bytes : List ℕ) (told : Tells (g.H.Files.contents c.args.files.now) c.args.name.now bytes). subst (λ (o : Option Directory). Tells o c.args.name.now bytes) (sym c.loop-i.invariant.reads.same) told in
    let good = λ (bytes : List ℕ) (told : Tells (g.H.Files.contents c.args.files.now) c.args.name.now bytes). sym (c.in_ok-entry.ensures.told bytes (before bytes told)) ∙ c.in-Some.is in
    let pushed : c.push.new.self ≡ es ++ e ∷ [] = c.push.ensures in
    let lt = subst (λ (x : Shape). i < x.items) c.shape.view_is c.loop-i-test.true in
    record {
      reads = reads-then g.H.Files _ g.met.H.Files.joins _ _ _ c.loop-i.invariant.reads c.read_item.ensures.reads;
      quiet = c.in_ok-entry.ensures.cause.done ∙ c.loop-i.invariant.quiet;
      count = ap length pushed ∙ length-append es (e ∷ []) ∙ ap (λ (n : ℕ). n + 1) c.loop-i.invariant.count;
      some = subst (All (IsRead s)) (sym pushed) (All-push (IsRead s) es e c.loop-i.invariant.some
          (let some = subst (λ (o : Option Entry). IfSome o (IsRead s)) c.in-Some.is c.in_ok-entry.ensures.some in some));
      any = subst (λ (xs : List Entry). AreEntries xs s.end) (sym pushed) (entries-more es e s.end (let few = c.requires.inside.few in let count = c.loop-i.invariant.count in omega (arith, few, count, lt)) c.loop-i.invariant.any
          (let ends = subst (λ (o : Option Entry). IfSome o (λ x. x.offset + x.size ≤ s.end)) c.in-Some.is c.in_ok-entry.ensures.ends in ends) none);
      entries_are = λ bytes told. pushed ∙ ap (λ (xs : List Entry). xs ++ e ∷ []) (c.loop-i.invariant.entries_are bytes told)
          ∙ ap (λ (x : Entry). entries_in bytes s i ++ x ∷ []) (sym (entry-is bytes s i e (good bytes told))) ∙ sym (one-more bytes s i);
      fine_so_far = λ bytes told. further bytes s i (c.loop-i.invariant.fine_so_far bytes told)
          (fine bytes s i e (good bytes told) (ap (list_any (has_guid e.guid)) (sym (c.loop-i.invariant.entries_are bytes told)) ∙ none));
    }

pub returns-clause-told : goal.returns-clause-told
returns-clause-told g c = λ bytes told.
    let s = c.args.shape.now in
    let i = c.loop-i.i in
    let all : i ≡ s.items = (let e : i ≡ c.shape.inside.items = omega (arith, c.loop-i-test.false, c.loop-i.auto.i-end) in e) ∙ ap (λ (x : Shape). x.items) c.shape.view_is in
    let fine = subst (λ (n : ℕ). (k : ℕ) → k < n → item_fault bytes s k ≡ None) all (c.loop-i.invariant.fine_so_far bytes told) in
    passes-all bytes s fine ∙ ap (λ (xs : List Entry). Ok xs) (sym (c.loop-i.invariant.entries_are bytes told ∙ ap (entries_in bytes s) all))

pub returns-in_err-entry-clause-reads : goal.returns-in_err-entry-clause-reads
returns-in_err-entry-clause-reads g c =
    reads-then g.H.Files _ g.met.H.Files.joins _ _ _ c.loop-i.invariant.reads c.read_item.ensures.reads

pub returns-in_default-clause-reads : goal.returns-in_default-clause-reads
returns-in_default-clause-reads g c =
    reads-then g.H.Files _ g.met.H.Files.joins _ _ _ c.loop-i.invariant.reads c.read_item.ensures.reads

pub returns-then-has-clause-reads : goal.returns-then-has-clause-reads
returns-then-has-clause-reads g c =
    reads-then g.H.Files _ g.met.H.Files.joins _ _ _ c.loop-i.invariant.reads c.read_item.ensures.reads
