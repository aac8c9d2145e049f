use Rattle.std.proofs.Common.{◌∙◌, ◌≢◌, ℕ, All, Ok, Option, List, Vec, [], ◌∷◌, ap, arith, sym, subst, length, map}
use Rattle.std.proofs.lemmas.List.{length-append}
use Rattle.std.specs.Global.{Global}
use Rattle.host_io.specs.{Access.Asks, Contents.Directory}
use Rattle.fip_making.specs.{Payloads.IsElsewhere, Payloads.IsThere, Payloads.part_told, declared.payloads.Payload.Payload, Stops.IsLate}
use Rattle.fip_making.proofs.Packings.{more-payloads, one-more-there, stopped-at}
use Rattle.fip_making.proofs.ReadsBy.{alone-starved, alone-then, alone-then-stopped, alone-wider, one-spared}
use Rattle.fip_making.proofs.Tables.{gives-err, rose-still}
use Rattle.fip_words.specs.declared.values.FileWord.{FileWord}
use Rattle.fip_making.proofs.payloads.payloads_of_files.Goals as goal

pub returns-in-Err-clause-told : goal.returns-in-Err-clause-told
returns-in-Err-clause-told g c = λ told e.
    gives-err (part_told told) (λ (v : Vec Payload Global). map (part_told told) v.items) _ _ _ _ c.in-Err.stop (λ r. rose-still _ _ _ (sym c.loop-one.invariant.quiet) r)
    (stopped-at told c.args.named.now c.loop-one.one-index c.one-item.result c.loop-one-test.true c.one-item.is _)
    (c.in-Err.ensures.told told (c.loop-one.invariant.files.same ∙ e))

pub loop-one-preserved : goal.loop-one-preserved
loop-one-preserved g c =
    let more = c.in-Ok-push.ensures.items in record {
      files = (alone-then {IsOwn = IsLate} g.met.H.Files.joins c.loop-one.invariant.files c.loop-one.invariant.quiet (λ s late. late) (alone-wider (one-spared (λ (w : FileWord). w.file.now) _ _ _ c.one-item.is c.loop-one-test.true) c.in-Ok.ensures.reads)).files;
      quiet = c.in-Ok.ensures.reads.only.quiet ∙ c.loop-one.invariant.quiet;
      count = omega (arith, ap length more, length-append c.loop-one.payloads.items (c.in-Ok.payload ∷ []), c.loop-one.invariant.count);
      there = subst (All (IsThere (g.H.Files.contents c.args.files.now))) (sym more)
          (one-more-there (IsThere (g.H.Files.contents c.args.files.now)) c.loop-one.payloads.items c.in-Ok.payload c.loop-one.invariant.there
          (subst (λ (o : Option Directory). IsThere o c.in-Ok.payload) c.loop-one.invariant.files.same c.in-Ok.ensures.there));
      elsewhere = λ access other.
          subst (λ (ps : List Payload). IsElsewhere ps access) (sym more)
          (one-more-there (λ p. access ≢ Asks p.file.now) c.loop-one.payloads.items c.in-Ok.payload (c.loop-one.invariant.elsewhere access other)
          (subst (λ (name : List ℕ). access ≢ Asks name) (sym c.in-Ok.ensures.file) (one-spared (λ (w : FileWord). w.file.now) _ _ _ c.one-item.is c.loop-one-test.true access other)));
      so-far = λ told e.
          more-payloads told c.args.named.now c.loop-one.one-index c.one-item.result c.loop-one-test.true c.one-item.is
          c.loop-one.payloads.items c.in-Ok.payload (c.loop-one.invariant.so-far told e)
          (c.in-Ok.ensures.told told (c.loop-one.invariant.files.same ∙ e))
          ∙ ap (λ (l : List Payload). Ok (map (part_told told) l)) (sym more);
    }

pub returns-in-Err-clause-reads : goal.returns-in-Err-clause-reads
returns-in-Err-clause-reads g c = alone-then-stopped g.met.H.Files.joins c.loop-one.invariant.files c.loop-one.invariant.quiet (λ s late. late) (alone-wider (one-spared (λ (w : FileWord). w.file.now) _ _ _ c.one-item.is c.loop-one-test.true) c.in-Err.ensures.reads)

pub returns-in-Err-push-clause-reads : goal.returns-in-Err-push-clause-reads
returns-in-Err-push-clause-reads g c =
    let read = alone-wider (one-spared (λ (w : FileWord). w.file.now) _ _ _ c.one-item.is c.loop-one-test.true) c.in-Ok.ensures.reads in
    alone-then g.met.H.Files.joins c.loop-one.invariant.files c.loop-one.invariant.quiet (λ s late. late) (alone-starved tt read.files read.only.quiet)
