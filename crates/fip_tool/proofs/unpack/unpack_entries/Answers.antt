use Rattle.std.proofs.Common.{◌∙◌, ◌≢◌, ◌+◌, ◌≤◌, ◌∷◌, [], ℕ, List, ap, drop, filter, length, map, take, arith, sym, subst}
use Rattle.std.specs.List.{concat}
use Rattle.std.specs.Io.KnownBytes.{Appends}
use Rattle.std.proofs.lemmas.List.{length-append, length-map, map-append}
use Rattle.std.specs.Prelude.{◌==◌, ◌||◌}
use Rattle.std.proofs.lemmas.List.Elements.{All-get_or}
use Rattle.fwu_formats.specs.Package.{Entry}
use Rattle.host_io.specs.Access.{Makes}
use Rattle.fip_tool.specs.{Lines.unpacked_line, Lines.unpacked_name, Steps.sink_failed, Wrote.raised_by}
use Rattle.fip_making.specs.Values.{has_type_among}
use Rattle.fip_tool.proofs.{Texts.said-more, Faults.faults-then, WritingLemmas.none-unwritten}
use Rattle.fip_tool.proofs.{WritingLemmas.tears-still, WroteLemmas.one-wrote, WroteLemmas.wrote-behind}
use Rattle.fip_tool.proofs.UnpackLemmas.{all-done, next-chosen, next-passed, one-chosen, split-chosen, step-done, step-passed, step-stops, tells-still, there-still}
use Rattle.fip_tool.proofs.unpack.unpack_entries.Goals.{then-is_chosen+in_ok-unpack_entry, else-is_chosen}
use Rattle.fip_making.proofs.{Tables.rose-from, Tables.rose-still, Refusing.handed-on}
use Rattle.fip_tool.proofs.unpack.unpack_entries.Goals as goal

pub unpack_entry-requires-clause-stored : goal.unpack_entry-requires-clause-stored
unpack_entry-requires-clause-stored g c = λ bytes tells.
    subst (λ (x : Entry). x.offset + x.size ≤ length bytes) (sym c.entry-item.is)
    (All-get_or (λ x. x.offset + x.size ≤ length bytes) c.args.entries.now c.loop-entry.entry-index c.entry-item.result c.loop-entry-test.true
    (c.requires.stored bytes (tells-still c.args.unpacked.now.prefix.now c.args.unpacked.now.from.now _ _ _ _ _ c.loop-entry.invariant.silent c.requires.there c.loop-entry.invariant.so-far bytes tells)))

pub unpack_entry-requires-clause-there : goal.unpack_entry-requires-clause-there
unpack_entry-requires-clause-there g c = there-still c.args.unpacked.now.prefix.now c.args.unpacked.now.from.now _ _ _ _ _ c.loop-entry.invariant.silent c.requires.there c.loop-entry.invariant.so-far

pub returns-in_err-unpack_entry-clause-told : goal.returns-in_err-unpack_entry-clause-told
returns-in_err-unpack_entry-clause-told g c =
    rw (handed-on c.from_residual.result c.in_err-unpack_entry.field-0.0 c.from_residual.ensures.1) (λ told bytes is stored.
    let s = c.loop-entry.invariant.so-far told bytes is stored in
    step-stops c.args.unpacked.now.prefix.now c.args.unpacked.now.from.now bytes (λ e. (length c.args.unpacked.now.names.now == 0) || has_type_among c.args.unpacked.now.names.now e) c.args.entries.now c.loop-entry.entry-index told _
    c.entry-item.result c.loop-entry-test.true (sym c.entry-item.is) _ _ _ _ _ _ _ s _ _ _ c.in_err-unpack_entry.field-0.0
    (λ r. rose-still _ _ _ (sym c.loop-entry.invariant.quiet) r) (λ r. tears-still (g.H.Files.writes c.args.files.now) (g.H.Files.writes c.loop-entry.files) (g.H.Files.writes c.unpack_entry.new.files) c.loop-entry.invariant.unspoiled r) (λ r. rose-from _ _ _ c.loop-entry.invariant.later_sink r) (sym c.is_chosen.ensures ∙ c.if-is_chosen.true) (c.in_err-unpack_entry.ensures.told s.now bytes s.is s.stored))

pub loop-entry-preserved : goal.loop-entry-preserved
loop-entry-preserved g c =
    let p = λ (e : Entry). (length c.args.unpacked.now.names.now == 0) || has_type_among c.args.unpacked.now.names.now e in
    let e = c.entry-item.result in
    let es = c.args.entries.now in
    let i = c.loop-entry.entry-index in
    let line = unpacked_line c.args.unpacked.now.prefix.now in
    elim c.if-is_chosen.branch [
      | then-is_chosen+in_ok-unpack_entry w ↦
          let more = next-chosen p es i e c.loop-entry-test.true (sym c.entry-item.is) (sym c.is_chosen.ensures ∙ w.if-is_chosen.true) in
          rw (w.files-is, w.sink-is) (record {
            silent = λ e. w.in_ok-unpack_entry.ensures.silent (c.loop-entry.invariant.silent e);
            spares = λ access asked made. g.met.H.Files.joins _ _ _ access (c.loop-entry.invariant.spares access asked made) (w.in_ok-unpack_entry.ensures.spares access asked
                (one-chosen p es i e c.loop-entry-test.true (sym c.entry-item.is) (sym c.is_chosen.ensures ∙ w.if-is_chosen.true) (λ x. access ≢ Makes (unpacked_name c.args.unpacked.now.prefix.now x.guid)) made));
            quiet = w.in_ok-unpack_entry.ensures.texts.file_count.quiet ∙ c.loop-entry.invariant.quiet;
            unspoiled = none-unwritten (g.H.Files.writes c.args.files.now) (g.H.Files.writes c.loop-entry.files) (g.H.Files.writes w.unpack_entry.new.files) c.loop-entry.invariant.unspoiled w.in_ok-unpack_entry.ensures.unspoiled;
            wrote =
                one-wrote (line e) _ _ _ _ _ (length (filter p (take i es))) _ c.loop-entry.invariant.wrote
                (ap length more ∙ length-append (filter p (take i es)) (e ∷ [])) w.in_ok-unpack_entry.ensures.texts.wrote;
            later_sink = omega (arith, c.loop-entry.invariant.later_sink, w.unpack_entry.ensures.texts.later_sink);
            sink_count = w.in_ok-unpack_entry.ensures.texts.sink_count ∙ c.loop-entry.invariant.sink_count;
            said =
                said-more (map line (filter p (take i es))) _ (line e) _ _ _ _ _
                (ap (map line) more ∙ map-append line (filter p (take i es)) (e ∷ []))
                c.loop-entry.invariant.said w.in_ok-unpack_entry.ensures.texts.wrote;
            so-far = λ told bytes is stored.
                let s = c.loop-entry.invariant.so-far told bytes is stored in
                step-done c.args.unpacked.now.prefix.now c.args.unpacked.now.from.now bytes p es i told _
                e c.loop-entry-test.true (sym c.entry-item.is) _ _ _ _ (Unit {0}) (Unit {0}) (Unit {0}) s _
                (sym c.is_chosen.ensures ∙ w.if-is_chosen.true) (w.in_ok-unpack_entry.ensures.other c.requires.other) (w.in_ok-unpack_entry.ensures.told s.now bytes s.is s.stored);
          })
      | else-is_chosen w ↦
          let same = next-passed p es i e c.loop-entry-test.true (sym c.entry-item.is) (sym c.is_chosen.ensures ∙ w.if-is_chosen.false) in
          rw (w.files-is, w.sink-is) (record {
            silent = c.loop-entry.invariant.silent;
            spares = c.loop-entry.invariant.spares;
            quiet = c.loop-entry.invariant.quiet;
            unspoiled = c.loop-entry.invariant.unspoiled;
            wrote =
                c.loop-entry.invariant.wrote ∙ ap (λ (l : List Entry). raised_by (length l) (g.H.Files.writes c.args.files.now).done) (sym same);
            later_sink = c.loop-entry.invariant.later_sink;
            sink_count = c.loop-entry.invariant.sink_count;
            said =
                subst (λ (l : List Entry). Appends (g.O.Sink.taken c.args.sink.now) (g.O.Sink.taken c.loop-entry.sink) (concat (map line l))) (sym same) c.loop-entry.invariant.said;
            so-far = λ told bytes is stored.
                step-passed c.args.unpacked.now.prefix.now c.args.unpacked.now.from.now bytes p es i told _
                e c.loop-entry-test.true (sym c.entry-item.is) _ _
                (c.loop-entry.invariant.so-far told bytes is stored) (sym c.is_chosen.ensures ∙ w.if-is_chosen.false);
          })
    ]

pub returns-in_err-unpack_entry-clause-texts : goal.returns-in_err-unpack_entry-clause-texts
returns-in_err-unpack_entry-clause-texts g c =
    let p = λ (e : Entry). (length c.args.unpacked.now.names.now == 0) || has_type_among c.args.unpacked.now.names.now e in
    let e = c.entry-item.result in
    let es = c.args.entries.now in
    let i = c.loop-entry.entry-index in
    let line = unpacked_line c.args.unpacked.now.prefix.now in
    let split = split-chosen p es i e c.loop-entry-test.true (sym c.entry-item.is) (sym c.is_chosen.ensures ∙ c.if-is_chosen.true) in
    let all = ap (map line) split ∙ map-append line (filter p (take i es)) (e ∷ filter p (drop (i + 1) es)) in
    let start = (g.H.Files.writes c.args.files.now).done in
    let so-far = c.loop-entry.invariant in
    let put = c.in_err-unpack_entry.ensures.texts in
    rw (handed-on c.from_residual.result c.in_err-unpack_entry.field-0.0 c.from_residual.ensures.1) (record {
      wrote =
          wrote-behind (map line (filter p (take i es))) (line e) (map line (filter p (drop (i + 1) es))) (map line (filter p es)) _ _ _ start _ _ c.in_err-unpack_entry.field-0.0 all so-far.said
          (so-far.wrote ∙ ap (λ (n : ℕ). raised_by n start) (sym (length-map (filter p (take i es)) line))) put.late put.wrote;
      file_count = faults-then so-far.quiet put.file_count;
      cause = λ e. rose-still _ _ _ (sym so-far.quiet) (put.cause e);
      late = put.late;
      later = omega (arith, so-far.quiet, put.later);
      later_sink = omega (arith, so-far.later_sink, put.later_sink);
      sink_count = put.sink_count ∙ ap (sink_failed c.in_err-unpack_entry.field-0.0) so-far.sink_count;
    })

pub returns-clause-told : goal.returns-clause-told
returns-clause-told g c = λ told bytes is stored.
    let far : length c.args.entries.now ≤ c.loop-entry.entry-index = omega (arith, c.loop-entry-test.false) in
    all-done c.args.unpacked.now.prefix.now c.args.unpacked.now.from.now bytes (λ e. (length c.args.unpacked.now.names.now == 0) || has_type_among c.args.unpacked.now.names.now e) c.args.entries.now c.loop-entry.entry-index told _ _ _ (Unit {0}) (Unit {0}) (Unit {0}) tt far
    (c.loop-entry.invariant.so-far told bytes is stored)

pub returns-in_err-unpack_entry-clause-spares : goal.returns-in_err-unpack_entry-clause-spares
returns-in_err-unpack_entry-clause-spares g c = λ access asked made.
    let p = λ (e : Entry). (length c.args.unpacked.now.names.now == 0) || has_type_among c.args.unpacked.now.names.now e in
    g.met.H.Files.joins _ _ _ access (c.loop-entry.invariant.spares access asked made) (c.in_err-unpack_entry.ensures.spares access asked
    (one-chosen p c.args.entries.now c.loop-entry.entry-index c.entry-item.result c.loop-entry-test.true (sym c.entry-item.is) (sym c.is_chosen.ensures ∙ c.if-is_chosen.true)
    (λ x. access ≢ Makes (unpacked_name c.args.unpacked.now.prefix.now x.guid)) made))
