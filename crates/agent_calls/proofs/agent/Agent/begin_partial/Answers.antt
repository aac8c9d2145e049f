use Rattle.std.proofs.Common.{◌≡◌, ◌+◌, ℕ, Bool, List, length, take, true, false, refl, sym, ap, subst, ◌∙◌}
use Rattle.std.specs.List.{list_any}
use Rattle.std.proofs.lemmas.List.{length-map}
use Rattle.base_core.specs.Bytes.{same_bytes}
use Rattle.fwu_formats.specs.Layout.{ImageRow}
use Rattle.agent_kept.specs.declared.kinds.Request.TheVariants as request
use Rattle.agent_machine.proofs.{Showing.known-shows, Showing.shows-some, StoredCalls.refused-of}
use Rattle.agent_machine.proofs.Spending.{call-spent, spent-goes, spent-then}
use Rattle.agent_machine.specs.{Meets.IsDone, Meets.flash_result, Beside.SparesBlocksByAll, Moment.Showing, Moment.Shows}
use Rattle.agent_calls.specs.{Shown.agent_at, Shown.device, Shown.fields, Shown.moment, Copies.BeginsPartly, Copies.CopiesImages}
use Rattle.agent_calls.specs.Takes.{CopiesTake, Takes, writes_to_begin, writes_to_copy}
use Rattle.std.specs.Prelude.{All, Err, IsTrue, OnOk}
use Rattle.fwu_model.specs.{Session.Session, State.State, Answer.are_named, Answer.names_unknown}
use Rattle.agent_calls.proofs.{CopyFilling.stored-alone, CopyFilling.stored-filled, CopyPadded.copied-padded, CopyPadded.on-ok}
use Rattle.agent_calls.proofs.{CopyTaking.when-done, agent.Agent.begin_partial.Goals.After-rows-count}
use Rattle.agent_calls.proofs.Taking.{takes-begin, takes-some, takes-then}
use Rattle.agent_calls.proofs.BegunPartly.{held, refused-partly, unbegun-stopped, begun-partly, only-done, partly-touched, takes-at, done-unrefused}
use Rattle.agent_calls.proofs.PlannedPartly.{IsPartial, named-are, partial-plan, plan-known, refused-partial}
use Rattle.agent_calls.proofs.agent.Agent.begin_partial.Given as given
use Rattle.agent_calls.proofs.agent.Agent.begin_partial.Goals as goal

pub returns-in-Err-clause-begins : goal.returns-in-Err-clause-begins
returns-in-Err-clause-begins g c = λ here passes.
    let a = c.args.self.now in
    let types = c.args.list.now in
    refused-partly (moment a) types (are_named a.layout.rows types) passes c.in-Err.status (λ E s x setting shows.
    refused-partial (moment a) E s x shows types (held (moment a)) c.in-Err.status
    (refused-of (moment a) (a.fitting here) a.session.sound passes (request.BeginPartial c.args.vendor_flags c.args.list)
    (λ F t. tt) c.in-Err.status (c.in-Err.ensures.plans passes) E s x setting shows))

-- what is planned
module _ (g : given.Over) (c : After-rows-count g) where
  partial : IsPartial (fields c.args.self.now).session c.args.list.now c.in-Ok.plan
  partial =
      partial-plan (fields c.args.self.now).session (fields c.args.self.now).meta.meta c.args.vendor_flags c.args.list c.in-Ok.plan c.in-Ok.ensures.asked

  some : IsTrue g.D.Flash.tells → (s : State) × (x : Session) × Shows (moment c.args.self.now) s x
  some tells =
      let a = c.args.self.now in (
        _,
        _,
        known-shows (fields a) (a.fitting c.if-self.false) g.D.Flash.tells (g.D.Flash.told a.flash)
            (a.knows c.if-self.false tells),
      )

  known-is : names_unknown c.args.self.now.layout.rows c.args.list.now ≡ false
  known-is =
      let a = c.args.self.now in
      let here = c.if-self.false in
      plan-known (fields a) (g.D.Flash.told a.flash) (a.fitting here) a.session.sound (a.some here) (λ _. true)
      (request.BeginPartial c.args.vendor_flags c.args.list) c.args.list.now refl (λ E s. tt) c.in-Ok.plan partial (c.in-Ok.ensures.plans (λ _. true))

  named-is : take (length c.rows-count.result.now) c.named_in-named.result ≡ are_named c.args.self.now.layout.rows c.args.list.now
  named-is =
      let a = c.args.self.now in
      named-are (fields a) c.args.list.now c.in-Ok.plan c.named_in-named.result (length c.rows-count.result.now) (a.fitting c.if-self.false) partial
      c.named_in-named.ensures (ap (λ (l : List ImageRow). length l) c.rows-count.ensures.value)

  long-is : length (are_named c.args.self.now.layout.rows c.args.list.now) ≡ length c.args.self.now.layout.rows
  long-is = length-map c.args.self.now.layout.rows (λ (r : ImageRow). list_any (same_bytes r.guid) c.args.list.now)

pub returns-in-Err-begin-clause-begins : goal.returns-in-Err-begin-clause-begins
returns-in-Err-begin-clause-begins g c = λ here passes.
    let rows = (goal.at.returns-in-Err-begin-clause-begins g c).After-rows-count in
    let a = c.args.self.now in
    let types = c.args.list.now in
    unbegun-stopped (moment a) (moment c.begin.new.self) types (are_named a.layout.rows types) passes (known-is g rows)
    (long-is g rows) (some g rows)
    c.in-Err-begin.stop (λ is. ap (λ b. moment b) (c.in-Err-begin.ensures.refused is))
    (λ is E s x layout shows. c.in-Err-begin.ensures.begun is here E s x layout shows) (c.in-Err-begin.ensures.meets here passes)

-- ---- begun, and then copied

module _ (g : given.Over) (c : goal.After-copy_images g) where
  abbrev rows : After-rows-count g
  rows = (goal.at.returns-in-Ok-begin-clause-goes g c).After-rows-count

  abbrev named : List Bool
  named = are_named c.args.self.now.layout.rows c.args.list.now

  copied : CopiesImages named c.copy_images.result (moment c.begin.new.self) (moment c.copy_images.new.self)
  copied =
      subst (λ (l : List Bool). CopiesImages l c.copy_images.result (moment c.begin.new.self) (moment c.copy_images.new.self))
      (named-is g rows)
      c.copy_images.ensures.copies

  -- the begin and the copies spare all but the metadata and the update bank
  touched : SparesBlocksByAll (fields c.args.self.now) (g.D.Flash.writes c.args.self.now.flash) (g.D.Flash.writes c.copy_images.new.self.flash)
  touched =
      let here = c.if-self.false in
      let b = c.begin.new.self in
      let begins = (c.in-Ok-begin.ensures.meets here (λ _. true)).leaves in
      let still = (call-spent here c.in-Ok-begin.ensures.goes).gone_is in
      partly-touched (moment c.args.self.now) (moment b) (moment c.copy_images.new.self) begins.stays begins.touches
      ((b.fitting still).active c.in-Ok-begin.ensures.restarts.staging_is) c.copy_images.ensures.fills

  partly : (passes : List ℕ → Bool)
      → BeginsPartly c.args.list.now named passes c.copy_images.result (moment c.args.self.now) (moment c.copy_images.new.self)
  partly passes =
      let here = c.if-self.false in
      begun-partly (moment c.args.self.now) (moment c.begin.new.self) (moment c.copy_images.new.self) c.args.list.now passes
      c.copy_images.result
      (c.args.self.now.fitting here) (known-is g rows) (c.in-Ok-begin.ensures.meets here passes) copied (some g rows) touched

  shown : ∥ Showing (moment c.args.self.now) ∥₁
  shown =
      let a = c.args.self.now in
      let here = c.if-self.false in
      shows-some (fields a) (a.fitting here) g.D.Flash.tells (g.D.Flash.told a.flash) (a.knows here) (a.some here)

  -- the copies were done, or the flash stopped them
  done : IsDone c.copy_images.result
  done =
      let here = c.if-self.false in
      only-done (moment c.args.self.now) (moment c.begin.new.self) (moment c.copy_images.new.self) c.args.list.now (λ _. true)
      c.copy_images.result
      (c.args.self.now.fitting here) (known-is g rows) (c.in-Ok-begin.ensures.meets here (λ _. true)) copied shown

pub returns-in-Ok-begin-clause-begins : goal.returns-in-Ok-begin-clause-begins
returns-in-Ok-begin-clause-begins g c = λ here passes. partly g c passes

pub returns-in-Ok-begin-clause-goes : goal.returns-in-Ok-begin-clause-goes
returns-in-Ok-begin-clause-goes g c =
    let here = c.if-self.false in
    spent-goes c.copy_images.result (agent_at c.args.self.now) (agent_at c.copy_images.new.self) (done g c) here
    (spent-then (call-spent here c.in-Ok-begin.ensures.goes) c.copy_images.ensures.spent)

pub returns-in-Ok-begin-clause-refused : goal.returns-in-Ok-begin-clause-refused
returns-in-Ok-begin-clause-refused g c = λ is. absurd (done-unrefused c.copy_images.result (done g c) is)

pub returns-in-Ok-begin-clause-spent : goal.returns-in-Ok-begin-clause-spent
returns-in-Ok-begin-clause-spent g c = λ here.
    let a = c.args.self.now in
    let b = c.begin.new.self in
    let d = c.copy_images.new.self in
    let types = c.args.list.now in
    let copies = writes_to_copy (named g c) a.lengths (length a.layout.rows) in
    let armed = g.D.Flash.arming (device a) in
    let begun = g.D.Flash.arming (device b) in
    let arming = g.D.Flash.arming (device d) in
    let takes = subst (λ (n : ℕ). OnOk c.copy_images.result (CopiesTake (named g c) n (moment b) begun arming))
    (long-is g (rows g c))
    (subst (λ (l : List Bool). OnOk c.copy_images.result (CopiesTake l (length l) (moment b) begun arming)) (named-is g (rows g c))
    c.copy_images.ensures.takes) in
    let begun-with : Takes (writes_to_begin (fields a)) armed begun =
    takes-begin (fields a) _ armed begun c.in-Ok-begin.ensures.spent (c.in-Ok-begin.ensures.keeps tt)
    (λ is. ap (λ d. g.D.Flash.arming d) (c.in-Ok-begin.ensures.still is)) in
    when-done _ _ c.copy_images.result takes (λ t.
    takes-then (writes_to_begin (fields a)) copies (writes_to_begin (fields a) + copies) armed begun arming refl begun-with
    (takes-some copies begun arming (shown g c)
    (takes-at (moment a) (moment b) (moment d) types (λ _. true) c.copy_images.result (a.fitting here) (known-is g (rows g c))
    (c.in-Ok-begin.ensures.meets here (λ _. true)) (copied g c) begun arming t)))

pub returns-in-Ok-begin-clause-still : goal.returns-in-Ok-begin-clause-still
returns-in-Ok-begin-clause-still g c = λ invalid all.
    ap (λ x. device x) (c.copy_images.ensures.still (subst (All IsTrue) (sym (named-is g (rows g c))) all)) ∙
    c.in-Ok-begin.ensures.still invalid

pub returns-in-Err-begin-clause-stores : goal.returns-in-Err-begin-clause-stores
returns-in-Err-begin-clause-stores g c = λ done tells.
    let a = c.args.self.now in
    let here = c.if-self.false in
    let begin = c.in-Err-begin.ensures in
    stored-alone (fields a) (flash_result {T = Unit {0}} (Err c.in-Err-begin.stop)) (g.D.Flash.told (device a)) (g.D.Flash.told (device c.begin.new.self))
    (λ is. (
      sym (begin.goes.power here) ∙ ap (λ d. g.D.Flash.on d) (begin.still is) ∙ a.power here,
      ap (λ d. g.D.Flash.told d) (begin.still is),
    ))
    (λ used. begin.stores done tells used)

pub returns-in-Ok-begin-clause-stores : goal.returns-in-Ok-begin-clause-stores
returns-in-Ok-begin-clause-stores g c = λ done tells.
    let a = c.args.self.now in
    let begin = c.in-Ok-begin.ensures in
    let begins = begin.meets c.if-self.false (λ _. true) in
    stored-filled (flash_result c.copy_images.result) (moment a) (moment c.begin.new.self) (moment c.copy_images.new.self) refl begins.leaves.stays.layout
    (begin.keeps tt) (λ is. ap (λ d. g.D.Flash.told d) (begin.still is)) (λ used. begin.stores tt tells used) c.copy_images.ensures.fills tells

-- behind each image that is copied the block that it ends in is blank
pub returns-in-Ok-begin-clause-padded : goal.returns-in-Ok-begin-clause-padded
returns-in-Ok-begin-clause-padded g c =
    let d = c.copy_images.new.self in
    copied-padded (moment c.args.self.now) (moment d) c.args.list.now (λ _. true) c.copy_images.result (partly g c (λ _. true))
    (on-ok c.copy_images.result (λ ok. c.copy_images.ensures.fills.metadata ∙ c.in-Ok-begin.ensures.keeps tt))
    (on-ok c.copy_images.result (λ ok. (d.fitting (c.copy_images.ensures.spent.gone_is ∙ ok)).rows)) (some g (rows g c))
    (on-ok c.copy_images.result (λ ok tells. (d.knows (c.copy_images.ensures.spent.gone_is ∙ ok) tells).staged.padded))
