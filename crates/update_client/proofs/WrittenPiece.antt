-- A piece that is written, or not.
use Rattle.std.proofs.Common.{◌≡◌, ◌≢◌, ℕ, ◌+◌, ◌<◌, ◌≤◌, Bool, List, [], ◌++◌, length, take, drop, get_or, set, Option, Some, Ok, Err, refl, sym, subst, ◌∙◌, arith}
use Rattle.std.specs.Prelude.{IsFalse, ◌==◌}
use Rattle.host_io.specs.Contents.{Directory}
use Rattle.fwu_formats.specs.{Layout.slot_bytes, Layout.find_image, Package.Entry, Package.payload}
use Rattle.fwu_model.specs.{State.State, Sound.Setting, Call.Call, Reply.Reply, declared.kinds.Status.Status}
use Rattle.fwu_model.specs.Session.{Session, Staged, Nothing, Open, Writes, no_handles}
use Rattle.fwu_model.specs.Answer.{Answer, answer, answered}
use Rattle.fwu_model.specs.Call as call
use Rattle.fwu_model.specs.Reply as reply
use Rattle.fip_tables.specs.Files.{Tells}
use Rattle.agent_machine.specs.{declared.stop.Stop.Stop, Moment.Moment, Moment.Shows, Meets.GoesBy, Goes.GoesByMoves}
use Rattle.agent_machine.specs.Filling.{between, filled, within}
use Rattle.agent_machine.specs.declared.stop.Stop.TheVariants as stop
use Rattle.agent_machine.proofs.{Going.goes-nothing, Going.goes-then, CallGoing.MeetsAs, CallGoing.call-goes}
use Rattle.agent_machine.proofs.Filling.{open-answers, write-answers, commit-answers}
use Rattle.agent_calls.specs.Copies.{FollowsInStaging}
use Rattle.agent_calls.proofs.Copies.{call-done, call-follows, no-opened, no-success}
use Rattle.update_client.specs.{declared.stops.SendStop.SendStop, declared.stops.SendStop.TheVariants.ReadFailed, Halts.Halts}
use Rattle.update_client.specs.{Halts.stopped_as, Images.WritesPiece, Images.WritesImage, Images.SendsImage}
use Rattle.update_client.proofs.Halting.{halts-after, other-end}

pub piece-unread : (told : Option Directory) (name : List ℕ) (e : Entry) (at : ℕ) (m : Moment)
    → WritesPiece told name e at (Err ReadFailed) m m
piece-unread told name e at m = record {
  bytes = [];
  count = tt;
  read = tt;
  goes = λ E s boot parts image before layout below count room shows.
      record {
        parts = set parts image (Open before);
        handles = set no_handles 0 (Writes image);
        goes = goes-nothing E m s
            (within boot parts image before) shows;
      };
}

pub piece-written : (told : Option Directory) (name : List ℕ) (e : Entry) (at n : ℕ) (m new : Moment) (bytes : List ℕ)
    → length bytes ≡ n → 0 < n → at + n ≤ e.size
    → ((file : List ℕ) → Tells told name file → bytes ≡ take n (drop at (payload file e)))
    → ((passes : List ℕ → Bool) → MeetsAs {T = Unit {0}} (λ _. reply.Success) (Ok tt) passes (call.Write 1 bytes) m new)
    → WritesPiece told name e at (Ok n) m new
piece-written told name e at n m new bytes count some inside read meets = record {
  bytes = bytes;
  count = (count, some, inside);
  read = read;
  goes = λ E s boot parts image before layout below size room shows.
      let x = within boot parts image before in
      let fits : length before + length bytes ≤ slot_bytes E.layout image = omega (arith, size, count, inside, room) in
      subst (λ (w : Answer). GoesByMoves E (Ok tt) m new s w.moves w.next) (write-answers E s boot parts image below before bytes fits)
      (call-goes E (λ _. reply.Success) (Ok tt) (call.Write 1 bytes) m new s x layout shows (meets E.passes) reply.Success refl);
}

-- a call whose answer within a staging is known, and no refusal: at a stop the flash stopped it
pub call-halts : {T : Type 0} (U : Type 0) (of : T → Reply) (st : Stop) (E : Setting) (c : Call) (old new : Moment) (s : State) (x y z : Session)
    (r : Reply) (boot : ℕ) (was now : Bool) → E.layout ≡ old.fields.layout → Shows old s x
    → answer E s x c ≡ answered r [] y → ((q : Status) → reply.Refused q ≢ r) → IsFalse was → GoesBy {T = T} (Err st) was now
    → MeetsAs of (Err st) E.passes c old new → Halts {T = U} (Err (stopped_as st)) E old new s boot z
call-halts U of st E c old new s x y z r boot was now layout shows is other here goes meets =
    as-halts st (call-follows U of st E c old new s x y z r was now layout shows is other here goes meets)
  where
    as-halts : (q : Stop) → FollowsInStaging {T = U} (Err q) E old new s z → Halts {T = U} (Err (stopped_as q)) E old new s boot z
    as-halts (stop.Status st) h = absurd h
    as-halts stop.Lost h = h
    as-halts stop.Fault h = h
    as-halts stop.Gone h = absurd h

pub piece-stopped : (told : Option Directory) (name : List ℕ) (e : Entry) (at n : ℕ) (m new : Moment) (bytes : List ℕ) (st : Stop) (was now : Bool)
    → length bytes ≡ n → at + n ≤ e.size
    → IsFalse was → GoesBy {T = Unit {0}} (Err st) was now
    → ((passes : List ℕ → Bool) → MeetsAs {T = Unit {0}} (λ _. reply.Success) (Err st) passes (call.Write 1 bytes) m new)
    → WritesPiece told name e at (Err (stopped_as st)) m new
piece-stopped told name e at n m new bytes st was now count inside here goes meets = record {
  bytes = bytes;
  count = tt;
  read = tt;
  goes = λ E s boot parts image before layout below size room shows.
      let fits : length before + length bytes ≤ slot_bytes E.layout image = omega (arith, size, count, inside, room) in
      call-halts ℕ (λ (_ : Unit {0}). reply.Success) st E (call.Write 1 bytes) m new s (within boot parts image before)
      (within boot parts image (before ++ bytes)) (within boot parts image (before ++ bytes)) reply.Success boot was now layout shows
      (write-answers E s boot parts image below before bytes fits) no-success here goes (meets E.passes);
}

-- ---- an image

-- opened
pub image-opened : (guid : List ℕ) (h : ℕ) (old new : Moment)
    → ((passes : List ℕ → Bool) → MeetsAs {T = ℕ} (λ k. reply.Opened k) (Ok h) passes (call.OpenWrite guid) old new)
    → (E : Setting) (s : State) (boot : ℕ) (parts : List Staged) (image : ℕ) → E.layout ≡ old.fields.layout
    → image < length parts → find_image E.layout.rows guid ≡ Some image
    → get_or parts image Nothing ≡ Nothing → Shows old s (between boot parts) → GoesByMoves E (Ok tt) old new s [] (within boot parts image [])
image-opened guid h old new meets E s boot parts image layout below found none shows =
    call-done (λ (k : ℕ). reply.Opened k) h E (call.OpenWrite guid) old new s (between boot parts) (within boot parts image [])
    (reply.Opened 1) layout shows (open-answers E s boot parts image guid found none) (meets E.passes)

pub image-unopened : (told : Option Directory) (name : List ℕ) (e : Entry) (request : ℕ) (old new : Moment) (st : Stop) (was now : Bool)
    → IsFalse was → GoesBy {T = ℕ} (Err st) was now
    → ((passes : List ℕ → Bool) → MeetsAs {T = ℕ} (λ k. reply.Opened k) (Err st) passes (call.OpenWrite e.guid) old new)
    → SendsImage told name e request (Err (stopped_as st)) old new
image-unopened told name e request old new st was now here goes meets = record {
  bytes = [];
  read = tt;
  goes = λ E s boot parts image layout below found room none shows.
      call-halts (Unit {0}) (λ (k : ℕ). reply.Opened k) st E (call.OpenWrite e.guid) old new s (between boot parts)
      (within boot parts image []) (between boot (filled parts image [] (request == 0)))
      (reply.Opened 1) boot was now layout shows
      (open-answers E s boot parts image e.guid found none) no-opened here goes (meets E.passes);
}

-- opened, and not written
pub image-unwritten : (told : Option Directory) (name : List ℕ) (e : Entry) (request : ℕ) (h : ℕ) (old mid new : Moment) (stopped : SendStop) →
    ((passes : List ℕ → Bool) → MeetsAs {T = ℕ} (λ k. reply.Opened k) (Ok h) passes (call.OpenWrite e.guid) old mid)
    → WritesImage told name e (Err stopped) mid new → SendsImage told name e request (Err stopped) old new
image-unwritten told name e request h old mid new stopped meets wrote = record {
  bytes = [];
  read = tt;
  goes = λ E s boot parts image layout below found room none shows.
      let one = image-opened e.guid h old mid meets E s boot parts image layout below found none shows in
      other-end (Unit {0}) (Unit {0}) stopped E old new s boot (within boot parts image wrote.bytes)
      (between boot (filled parts image [] (request == 0)))
      (halts-after {T = Unit {0}} (Err stopped) E old mid new s boot (within boot parts image [])
      (within boot parts image wrote.bytes) one
      (wrote.goes E s boot parts image (layout ∙ sym one.stays.layout) below room one.shows));
}

-- opened and written, and committed or not
module _ (told : Option Directory) (name : List ℕ) (e : Entry) (request h : ℕ) (old opened mid new : Moment)
    (opens : (passes : List ℕ → Bool) → MeetsAs {T = ℕ} (λ k. reply.Opened k) (Ok h) passes (call.OpenWrite e.guid) old opened)
    (wrote : WritesImage told name e (Ok tt) opened mid) where
  written : (E : Setting) (s : State) (boot : ℕ) (parts : List Staged) (image : ℕ) → E.layout ≡ old.fields.layout
      → image < length parts → find_image E.layout.rows e.guid ≡ Some image
      → e.size ≤ slot_bytes E.layout image → get_or parts image Nothing ≡ Nothing → Shows old s (between boot parts)
      → GoesByMoves E (Ok tt) old mid s [] (within boot parts image wrote.bytes)
  written E s boot parts image layout below found room none shows =
      let one = image-opened e.guid h old opened opens E s boot parts image layout below found none shows in
      goes-then E (Ok tt) old opened mid s [] [] (within boot parts image []) (within boot parts image wrote.bytes) one
      (wrote.goes E s boot parts image (layout ∙ sym one.stays.layout) below room one.shows)

  pub image-sent : ((passes : List ℕ → Bool) → MeetsAs {T = Unit {0}} (λ _. reply.Success) (Ok tt) passes (call.Commit 1 request) mid new)
      → SendsImage told name e request (Ok tt) old new
  image-sent commits = record {
    bytes = wrote.bytes;
    read = wrote.read;
    goes = λ E s boot parts image layout below found room none shows.
        let two = written E s boot parts image layout below found room none shows in
        goes-then E (Ok tt) old mid new s [] [] (within boot parts image wrote.bytes)
        (between boot (filled parts image wrote.bytes (request == 0))) two
        (call-done (λ (_ : Unit {0}). reply.Success) tt E (call.Commit 1 request) mid new s (within boot parts image wrote.bytes)
        (between boot (filled parts image wrote.bytes (request == 0))) reply.Success (layout ∙ sym two.stays.layout) two.shows
        (commit-answers E s boot parts image below wrote.bytes request) (commits E.passes));
  }

  pub image-uncommitted : (st : Stop) (was now : Bool) → IsFalse was → GoesBy {T = Unit {0}} (Err st) was now
      → ((passes : List ℕ → Bool) → MeetsAs {T = Unit {0}} (λ _. reply.Success) (Err st) passes (call.Commit 1 request) mid new)
      → SendsImage told name e request (Err (stopped_as st)) old new
  image-uncommitted st was now here goes commits = record {
    bytes = wrote.bytes;
    read = tt;
    goes = λ E s boot parts image layout below found room none shows.
        let two = written E s boot parts image layout below found room none shows in
        halts-after {T = Unit {0}} (Err (stopped_as st)) E old mid new s boot (within boot parts image wrote.bytes)
        (between boot (filled parts image wrote.bytes (request == 0))) two
        (call-halts (Unit {0}) (λ (_ : Unit {0}). reply.Success) st E (call.Commit 1 request) mid new s
        (within boot parts image wrote.bytes) (between boot (filled parts image wrote.bytes (request == 0)))
        (between boot (filled parts image wrote.bytes (request == 0))) reply.Success boot was now (layout ∙ sym two.stays.layout) two.shows
        (commit-answers E s boot parts image below wrote.bytes request) no-success here goes (commits E.passes));
  }
