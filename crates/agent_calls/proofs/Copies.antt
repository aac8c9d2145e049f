-- Copies of images of the bank that was started, step by step.
use Rattle.std.proofs.Common.{◌≡◌, ◌≢◌, ◌*◌, ℕ, ◌+◌, ◌<◌, ◌≤◌, Bool, true, List, [], ◌++◌, length, get_or, take, drop, Option, Some, None, Result, Ok, Err, refl, sym, ap, subst, ◌∙◌, arith, length-append}
use Rattle.std.specs.Prelude.{IsTrue, IsFalse, IsErr, OnOk}
use Rattle.std.proofs.lemmas.List.{take_all}
use Rattle.std.proofs.Math.Seq.{take-add}
use Rattle.std.proofs.lemmas.Result.{IfOk-from_err}
use Rattle.flash_core.specs.{Told.Told, declared.flash.FlashStop.FlashStop}
use Rattle.fwu_formats.specs.Layout.{slot_bytes, find_image, Layout, start}
use Rattle.fwu_model.specs.{State.State, Sound.Setting, Calm.IsAtRest, Call.Call, Reply.Reply, declared.kinds.Status.Status}
use Rattle.fwu_model.specs.Session.{Session, Staged, Nothing, Handle, On}
use Rattle.fwu_model.specs.Answer.{Answer, answer, answered, booted_package, image_held}
use Rattle.fwu_model.specs.Call as call
use Rattle.fwu_model.specs.Reply as reply
use Rattle.moves.specs.Moved.{GuardedBy, IsReady}
use Rattle.moves.proofs.Composed.{does-nothing}
use Rattle.agent_machine.specs.{declared.stop.Stop.Stop, Fields.Fields, Fields.total_of, Machine.state_in, Machine.session_in}
use Rattle.agent_machine.specs.{Moment.Moment, Moment.Shows, Meets.GoesBy, Meets.Stays, Meets.flash_result, Goes.GoesByMoves}
use Rattle.agent_machine.specs.{Knows.Fitting, Knows.Knows, Filling.between, Filling.within, Filling.filled}
use Rattle.agent_machine.specs.Beside.{IsSparedByAll, KeepsSparedByAll, SparesBlocksByAll}
use Rattle.agent_machine.specs.declared.stop.Stop.TheVariants as stop
use Rattle.agent_kept.specs.Kept.{staging_meant, handles_meant}
use Rattle.agent_machine.proofs.{Beside.blocks-still, Beside.spared-told, Going.goes-nothing, Going.goes-then, Going.stays-then}
use Rattle.agent_machine.proofs.{Totals.held-long, Reading.image-piece, Answered.stays-same}
use Rattle.agent_machine.proofs.CallGoing.{MeetsAs, call-goes, call-replies, call-stopped}
use Rattle.agent_machine.proofs.Filling.{open-answers, write-answers, commit-answers}
use Rattle.agent_calls.specs.Copies.{FollowsInStaging, CopiesPiece, CopiesBytes, CopiesImage}

-- the first bytes of an image were read and written
pub record CopiesFront (image at : ℕ) (old new : Moment) : Type 0 where
  pub stays : Stays old new
  pub bytes : List ℕ
  pub count : length bytes ≡ at
  pub read : IsTrue old.tells → (s : State) (boot : ℕ) (parts : List Staged) → image < length parts
      → Shows old s (within boot parts image []) → bytes ≡ take at (image_held s boot image)
  pub goes : (E : Setting) (s : State) (boot : ℕ) (parts : List Staged) → E.layout ≡ old.fields.layout
      → image < length parts → Shows old s (within boot parts image [])
      → GoesByMoves E (Ok tt) old new s [] (within boot parts image bytes)

-- ---- one after the other

any : List ℕ → Bool
any _ = true

pub follows-after : {T : Type 0} (result : Result T Stop) (E : Setting) (old mid new : Moment) (s : State) (x y : Session)
    → GoesByMoves E (Ok tt) old mid s [] x → FollowsInStaging result E mid new s y → FollowsInStaging result E old new s y
follows-after (Err (stop.Status st)) E old mid new s x y first next = absurd next
follows-after (Err stop.Gone) E old mid new s x y first next = absurd next
follows-after q E old mid new s x y first next = goes-then E (flash_result q) old mid new s [] [] x y first next

-- at a stop nothing is said of the session
pub other-end : (T U : Type 0) (st : Stop) (E : Setting) (old new : Moment) (s : State) (y z : Session)
    → FollowsInStaging {T = T} (Err st) E old new s y → FollowsInStaging {T = U} (Err st) E old new s z
other-end T U (stop.Status st) E old new s y z h = h
other-end T U stop.Gone E old new s y z h = h
other-end T U q E old new s y z h =
    record { shows = tt; does = h.does; guarded = h.guarded; keeps = h.keeps; touches = h.touches; stays = h.stays }

-- a call whose answer within a staging is known, and no refusal: at a stop the flash stopped it
pub call-follows : {T : Type 0} (U : Type 0) (of : T → Reply) (st : Stop) (E : Setting) (c : Call) (old new : Moment) (s : State) (x y z : Session)
    (r : Reply) (was now : Bool) → E.layout ≡ old.fields.layout → Shows old s x
    → answer E s x c ≡ answered r [] y → ((q : Status) → reply.Refused q ≢ r) → IsFalse was → GoesBy {T = T} (Err st) was now
    → MeetsAs of (Err st) E.passes c old new → FollowsInStaging {T = U} (Err st) E old new s z
call-follows U of (stop.Status st) E c old new s x y z r was now layout shows is other here goes meets =
    absurd (other st (call-replies E of (Err (stop.Status st)) c old new s x layout shows meets (reply.Refused st) refl ∙ ap (λ (w : Answer). w.reply) is))
call-follows U of stop.Gone E c old new s x y z r was now layout shows is other here goes meets =
    let there : IsTrue was = goes.gone.0 refl in
    absurd cc
call-follows {T = T} U of q E c old new s x y z r was now layout shows is other here goes meets =
    subst (λ (w : Answer). GoesByMoves E (flash_result {T = T} (Err q)) old new s w.moves z) is
    (call-stopped E of (Err q) c old new s x layout shows meets refl z)

-- and where it is done
pub call-done : {T : Type 0} (of : T → Reply) (v : T) (E : Setting) (c : Call) (old new : Moment) (s : State) (x y : Session) (r : Reply)
    → E.layout ≡ old.fields.layout → Shows old s x
    → answer E s x c ≡ answered r [] y → MeetsAs of (Ok v) E.passes c old new → GoesByMoves E (Ok tt) old new s [] y
call-done of v E c old new s x y r layout shows is meets = subst (λ (w : Answer). GoesByMoves E (Ok tt) old new s w.moves w.next) is
    (call-goes E of (Ok v) c old new s x layout shows meets (of v) refl)

pub no-success : (q : Status) → reply.Refused q ≢ reply.Success
no-success q is = cc

pub no-opened : (q : Status) → reply.Refused q ≢ reply.Opened 1
no-opened q is = cc

-- ---- a read of the bank that was started

-- what a read leaves: the same fields, and what is told
module _ (tells : Bool) (s t : Told) (v w : ℕ → ℕ) (f g : Fields) (fields : g ≡ f) (told : IsTrue tells → t ≡ s) (counts : w ≡ v) where
  abbrev earlier : Moment
  earlier = record { tells = tells; told = s; writes = v; fields = f }

  abbrev behind : Moment
  behind = record { tells = tells; told = t; writes = w; fields = g }

  pub read-stays : Stays earlier behind
  read-stays = record {
    tells = refl;
    layout = ap (λ (h : Fields). h.layout) fields;
    boot = ap (λ (h : Fields). h.boot) fields;
    counter = ap (λ (h : Fields). h.counter) fields;
    lengths = ap (λ (h : Fields). h.lengths) fields;
    guard = λ is. ap (λ (u : Told). u.guard) (told is);
  }

  read-shows : (q : State) (x : Session) → Shows earlier q x → Shows behind q x
  read-shows q x shows = subst (λ (h : Fields). Shows (record { tells = tells; told = t; writes = w; fields = h }) q x) (sym fields) (record {
    told = λ is. subst (λ (u : Told). (q ≡ state_in f u.now) × (x ≡ session_in f u.now)) (sym (told is)) (shows.told is);
    speaks = shows.speaks;
    staged = shows.staged;
    kept = shows.kept;
    means = shows.means;
  })

  guarded-by : (r : Result (Unit {0}) FlashStop) → IsTrue tells → IsAtRest s → GuardedBy r t
  guarded-by (Ok x) is rest = subst IsAtRest (sym (told is)) rest
  guarded-by (Err e) is rest = (subst IsAtRest (sym (told is)) rest).guarded

  keeps-all : IsTrue tells → KeepsSparedByAll f s t
  keeps-all is = spared-told (IsSparedByAll f.layout f.boot) s t (told is)

  touches-none : SparesBlocksByAll f v w
  touches-none = blocks-still (IsSparedByAll f.layout f.boot) counts

  -- whatever it ended with
  read-ends : (r : Result (Unit {0}) FlashStop) (E : Setting) (q : State) (y : Session) → OnOk r (Shows behind q y)
      → GoesByMoves E r earlier behind q [] y
  read-ends r E q y shows = record {
    shows = shows;
    does = λ is ready. does-nothing r E q t (subst (λ (u : Told). IsReady E u q) (sym (told is)) ready);
    guarded = guarded-by r;
    keeps = keeps-all;
    touches = touches-none;
    stays = read-stays;
  }

  pub read-goes : (E : Setting) (q : State) (x : Session) → Shows earlier q x → GoesByMoves E (Ok tt) earlier behind q [] x
  read-goes E q x shows = read-ends (Ok tt) E q x (read-shows q x shows)

  pub read-stopped : (r : Result (Unit {0}) FlashStop) → IsErr r → (E : Setting) (q : State) (y : Session)
      → GoesByMoves E r earlier behind q [] y
  read-stopped r err E q y = read-ends r E q y (IfOk-from_err r (λ _. Shows behind q y) err)

-- a stop of the flash, as that of a copy
pub flash-follows : (T : Type 0) (q : Stop) (e : FlashStop) (E : Setting) (old new : Moment) (s : State) (y : Session)
    → flash_result {T = Unit {0}} (Err q) ≡ Err e → GoesByMoves E (Err e) old new s [] y → FollowsInStaging {T = T} (Err q) E old new s y
flash-follows T (stop.Status st) e E old new s y is goes = absurd cc
flash-follows T stop.Gone e E old new s y is goes = absurd cc
flash-follows T q e E old new s y is goes =
    subst (λ (r : Result (Unit {0}) FlashStop). GoesByMoves E r old new s [] y) (sym is) goes

abbrev pub plain : Fields → Setting
plain f = record { layout = f.layout; files = λ _. None; passes = λ _. true }

-- what is read is of the image that the bank holds
pub piece-held : (m : Moment) → Fitting m.fields → (IsTrue m.tells → Knows m.fields m.told) → (image at n : ℕ) → image < length m.fields.layout.rows
    → at + n ≤ total_of m.fields (Some image) → (bytes : List ℕ)
    → (IsTrue m.tells → bytes ≡ take n (drop (4096 * start m.fields.layout m.fields.boot image + at) m.told.now))
    → IsTrue m.tells → (s : State) (x : Session) → Shows m s x → bytes ≡ take n (drop at (image_held s m.fields.boot image))
piece-held m fitting knows image at n lt fits bytes read tells s x shows =
    read tells
    ∙ sym (image-piece (record { layout = m.fields.layout; files = λ _. None; passes = λ _. true }) m.fields m.told image at n refl fitting (knows tells) lt fits)
    ∙ ap (λ (w : State). take n (drop at (image_held w m.fields.boot image))) (sym (shows.told tells).0)

-- ---- a piece

pub piece-unread : (tells : Bool) (s t : Told) (v w : ℕ → ℕ) (f g : Fields) → g ≡ f → (IsTrue tells → t ≡ s) → w ≡ v
    → (image at : ℕ) (q : Stop) (e : FlashStop) → flash_result {T = Unit {0}} (Err q) ≡ Err e
    → CopiesPiece image at (Err q) (record { tells = tells; told = s; writes = v; fields = f }) (record { tells = tells; told = t; writes = w; fields = g })
piece-unread tells s t v w f g fields told counts image at q e is = record {
  stays = read-stays tells s t v w f g fields told counts;
  bytes = [];
  count = tt;
  read = tt;
  goes = λ E state boot parts before layout below size shows.
      flash-follows ℕ q e E _ _ state (within boot parts image (before ++ [])) is
      (read-stopped tells s t v w f g fields told counts (Err e) refl E state (within boot parts image (before ++ [])));
}

module _ (old mid new : Moment) (fitting : Fitting old.fields) (image at n : ℕ) (bytes : List ℕ)
    (reads : (E : Setting) (s : State) (x : Session) → Shows old s x → GoesByMoves E (Ok tt) old mid s [] x) (kept : Stays old mid)
    (lt : image < length old.fields.layout.rows) (long : length bytes ≡ n) (inside : at + n ≤ total_of old.fields (Some image)) where
  -- the bytes fit the slot
  fits : (E : Setting) (before : List ℕ) → E.layout ≡ old.fields.layout → length before ≡ at → length before + length bytes ≤ slot_bytes E.layout image
  fits E before layout size =
      let room = fitting.within image lt in
      subst (λ (L : Layout). length before + length bytes ≤ slot_bytes L image) (sym layout) (omega (arith, room, inside, long, size))

  pub piece-written : 0 < n
      → (IsTrue old.tells → (s : State) (x : Session) → Shows old s x → bytes ≡ take n (drop at (image_held s old.fields.boot image)))
      → ((passes : List ℕ → Bool) → MeetsAs {T = Unit {0}} (λ _. reply.Success) (Ok tt) passes (call.Write 1 bytes) mid new)
      → CopiesPiece image at (Ok n) old new
  piece-written some read meets = record {
    stays = stays-then old mid new kept (meets any).leaves.stays;
    bytes = bytes;
    count = (long, some, inside);
    read = read;
    goes = λ E s boot parts before layout below size shows.
        let x = within boot parts image before in
        let one = reads E s x shows in
        goes-then E (Ok tt) old mid new s [] [] x (within boot parts image (before ++ bytes)) one
        (call-done (λ (_ : Unit {0}). reply.Success) tt E (call.Write 1 bytes) mid new s x (within boot parts image (before ++ bytes)) reply.Success
        (layout ∙ sym one.stays.layout) one.shows (write-answers E s boot parts image below before bytes (fits E before layout size)) (meets E.passes));
  }

  pub piece-stopped : (st : Stop) (was now : Bool) → IsFalse was → GoesBy {T = Unit {0}} (Err st) was now
      → ((passes : List ℕ → Bool) → MeetsAs {T = Unit {0}} (λ _. reply.Success) (Err st) passes (call.Write 1 bytes) mid new)
      → CopiesPiece image at (Err st) old new
  piece-stopped st was now here goes meets = record {
    stays = stays-then old mid new kept (meets any).leaves.stays;
    bytes = bytes;
    count = tt;
    read = tt;
    goes = λ E s boot parts before layout below size shows.
        let x = within boot parts image before in
        let y = within boot parts image (before ++ bytes) in
        let one = reads E s x shows in
        follows-after {T = ℕ} (Err st) E old mid new s x y one
        (call-follows ℕ (λ (_ : Unit {0}). reply.Success) st E (call.Write 1 bytes) mid new s x y y reply.Success was now
        (layout ∙ sym one.stays.layout) one.shows (write-answers E s boot parts image below before bytes (fits E before layout size)) no-success here goes (meets E.passes));
  }

-- ---- all pieces of an image

-- the bank that was started, of an agent that shows a session that is on
pub booted-is : (m : Moment) (s : State) (boot : ℕ) (staging : Option (List Staged)) (handles : List Handle) → Shows m s (On boot staging handles) → boot ≡ m.fields.boot
booted-is m s boot staging handles shows = on-boot boot m.fields.boot staging (staging_meant m.fields.session shows.staged) handles (handles_meant m.fields.session) shows.means
  where
    on-boot : (a b : ℕ) (p q : Option (List Staged)) (hs gs : List Handle) → On a p hs ≡ On b q gs → a ≡ b
    on-boot a b p q hs gs e = cc

pub front-none : (image : ℕ) (m : Moment) → CopiesFront image 0 m m
front-none image m = record {
  stays = stays-same m;
  bytes = [];
  count = refl;
  read = λ tells s boot parts below shows. refl;
  goes = λ E s boot parts layout below shows. goes-nothing E m s (within boot parts image []) shows;
}

module _ (image at : ℕ) (old mid new : Moment) (first : CopiesFront image at old mid) where
  pub front-more : (n : ℕ) → CopiesPiece image at (Ok n) mid new → CopiesFront image (at + n) old new
  front-more n piece = record {
    stays = stays-then old mid new first.stays piece.stays;
    bytes = first.bytes ++ piece.bytes;
    count = omega (arith, length-append first.bytes piece.bytes, first.count, piece.count.0);
    read = λ tells s boot parts below shows.
        let one = first.goes (plain old.fields) s boot parts refl below shows in
        let here : boot ≡ mid.fields.boot = booted-is old s boot _ _ shows ∙ sym one.stays.boot in
        ap (λ (b : List ℕ). b ++ piece.bytes) (first.read tells s boot parts below shows)
        ∙ ap (λ (b : List ℕ). take at (image_held s boot image) ++ b)
        (piece.read (subst IsTrue (sym one.stays.tells) tells) s (within boot parts image first.bytes) one.shows
        ∙ ap (λ (b : ℕ). take n (drop at (image_held s b image))) (sym here))
        ∙ sym (take-add at n (image_held s boot image));
    goes = λ E s boot parts layout below shows.
        let one = first.goes E s boot parts layout below shows in
        goes-then E (Ok tt) old mid new s [] [] (within boot parts image first.bytes) (within boot parts image (first.bytes ++ piece.bytes)) one
        (piece.goes E s boot parts first.bytes (layout ∙ sym one.stays.layout) below first.count one.shows);
  }

  -- the piece was stopped
  pub bytes-stopped : (st : Stop) → CopiesPiece image at (Err st) mid new → CopiesBytes image (Err st) old new
  bytes-stopped st piece = record {
    stays = stays-then old mid new first.stays piece.stays;
    bytes = first.bytes ++ piece.bytes;
    count = tt;
    read = tt;
    goes = λ E s boot parts layout below shows.
        let one = first.goes E s boot parts layout below shows in
        other-end ℕ (Unit {0}) st E old new s (within boot parts image (first.bytes ++ piece.bytes)) (within boot parts image (first.bytes ++ piece.bytes))
        (follows-after {T = ℕ} (Err st) E old mid new s (within boot parts image first.bytes) (within boot parts image (first.bytes ++ piece.bytes)) one
        (piece.goes E s boot parts first.bytes (layout ∙ sym one.stays.layout) below first.count one.shows));
  }

  -- that was all
  pub bytes-done : at ≡ total_of old.fields (Some image) → (image < length old.fields.layout.rows) → CopiesBytes image (Ok tt) old mid
  bytes-done all lt = record {
    stays = first.stays;
    bytes = first.bytes;
    count = first.count ∙ all;
    read = λ tells s boot parts below shows.
        let here = booted-is old s boot _ _ shows in
        let long : total_of old.fields (Some image) ≡ length (image_held s boot image) =
        held-long old.fields (booted_package s old.fields.boot) image shows.speaks.lengths_are lt
        ∙ ap (λ (b : ℕ). length (image_held s b image)) (sym here) in
        first.read tells s boot parts below shows ∙ take_all at (image_held s boot image) (omega (arith, all, long));
    goes = first.goes;
  }

-- ---- an image

-- opened
pub image-opened : (guid : List ℕ) (image h : ℕ) (old new : Moment)
    → ((passes : List ℕ → Bool) → MeetsAs {T = ℕ} (λ k. reply.Opened k) (Ok h) passes (call.OpenWrite guid) old new)
    → find_image old.fields.layout.rows guid ≡ Some image
    → (E : Setting) (s : State) (boot : ℕ) (parts : List Staged) → E.layout ≡ old.fields.layout → get_or parts image Nothing ≡ Nothing
    → Shows old s (between boot parts) → GoesByMoves E (Ok tt) old new s [] (within boot parts image [])
image-opened guid image h old new meets found E s boot parts layout none shows =
    call-done (λ (k : ℕ). reply.Opened k) h E (call.OpenWrite guid) old new s (between boot parts) (within boot parts image [])
    (reply.Opened 1) layout shows (open-answers E s boot parts image guid (ap (λ (L : Layout). find_image L.rows guid) layout ∙ found) none) (meets E.passes)

pub image-unopened : (guid : List ℕ) (image : ℕ) (old new : Moment) (st : Stop) (was now : Bool) → find_image old.fields.layout.rows guid ≡ Some image
    → IsFalse was → GoesBy {T = ℕ} (Err st) was now
    → ((passes : List ℕ → Bool) → MeetsAs {T = ℕ} (λ k. reply.Opened k) (Err st) passes (call.OpenWrite guid) old new)
    → CopiesImage image (Err st) old new
image-unopened guid image old new st was now found here goes meets = record {
  stays = (meets any).leaves.stays;
  bytes = [];
  count = tt;
  read = tt;
  goes = λ E s boot parts layout below none shows.
      call-follows (Unit {0}) (λ (k : ℕ). reply.Opened k) st E (call.OpenWrite guid) old new s (between boot parts)
      (within boot parts image []) (between boot (filled parts image [] true)) (reply.Opened 1) was now layout shows
      (open-answers E s boot parts image guid (ap (λ (L : Layout). find_image L.rows guid) layout ∙ found) none) no-opened here goes (meets E.passes);
}

module _ (guid : List ℕ) (image h : ℕ) (old opened : Moment) (found : find_image old.fields.layout.rows guid ≡ Some image)
    (opens : (passes : List ℕ → Bool) → MeetsAs {T = ℕ} (λ k. reply.Opened k) (Ok h) passes (call.OpenWrite guid) old opened) where
  here-opened : Stays old opened
  here-opened = (opens any).leaves.stays

  -- and not copied
  pub image-uncopied : (mid : Moment) (st : Stop) → CopiesBytes image (Err st) opened mid → CopiesImage image (Err st) old mid
  image-uncopied mid st copied = record {
    stays = stays-then old opened mid here-opened copied.stays;
    bytes = copied.bytes;
    count = tt;
    read = tt;
    goes = λ E s boot parts layout below none shows.
        let one = image-opened guid image h old opened opens found E s boot parts layout none shows in
        other-end (Unit {0}) (Unit {0}) st E old mid s (within boot parts image copied.bytes) (between boot (filled parts image copied.bytes true))
        (follows-after {T = Unit {0}} (Err st) E old opened mid s (within boot parts image []) (within boot parts image copied.bytes) one
        (copied.goes E s boot parts (layout ∙ sym one.stays.layout) below one.shows));
  }

  module _ (mid : Moment) (copied : CopiesBytes image (Ok tt) opened mid) where
    copies : (E : Setting) (s : State) (boot : ℕ) (parts : List Staged) → E.layout ≡ old.fields.layout → image < length parts
        → get_or parts image Nothing ≡ Nothing → Shows old s (between boot parts)
        → GoesByMoves E (Ok tt) old mid s [] (within boot parts image copied.bytes)
    copies E s boot parts layout below none shows =
        let one = image-opened guid image h old opened opens found E s boot parts layout none shows in
        goes-then E (Ok tt) old opened mid s [] [] (within boot parts image []) (within boot parts image copied.bytes) one
        (copied.goes E s boot parts (layout ∙ sym one.stays.layout) below one.shows)

    pub image-copied : (new : Moment)
        → ((passes : List ℕ → Bool) → MeetsAs {T = Unit {0}} (λ _. reply.Success) (Ok tt) passes (call.Commit 1 0) mid new)
        → CopiesImage image (Ok tt) old new
    image-copied new commits = record {
      stays = stays-then old mid new (stays-then old opened mid here-opened copied.stays) (commits any).leaves.stays;
      bytes = copied.bytes;
      count = copied.count ∙ ap (λ (l : List ℕ). get_or l image 0) here-opened.lengths;
      read = λ tells s boot parts below none shows.
          let one = image-opened guid image h old opened opens found (plain old.fields) s boot parts refl none shows in
          copied.read (subst IsTrue (sym one.stays.tells) tells) s boot parts below one.shows;
      goes = λ E s boot parts layout below none shows.
          let two = copies E s boot parts layout below none shows in
          goes-then E (Ok tt) old mid new s [] [] (within boot parts image copied.bytes) (between boot (filled parts image copied.bytes true)) two
          (call-done (λ (_ : Unit {0}). reply.Success) tt E (call.Commit 1 0) mid new s (within boot parts image copied.bytes)
          (between boot (filled parts image copied.bytes true)) reply.Success (layout ∙ sym two.stays.layout) two.shows
          (commit-answers E s boot parts image below copied.bytes 0) (commits E.passes));
    }

    pub image-uncommitted : (new : Moment) (st : Stop) (was now : Bool) → IsFalse was → GoesBy {T = Unit {0}} (Err st) was now
        → ((passes : List ℕ → Bool) → MeetsAs {T = Unit {0}} (λ _. reply.Success) (Err st) passes (call.Commit 1 0) mid new)
        → CopiesImage image (Err st) old new
    image-uncommitted new st was now here goes commits = record {
      stays = stays-then old mid new (stays-then old opened mid here-opened copied.stays) (commits any).leaves.stays;
      bytes = copied.bytes;
      count = tt;
      read = tt;
      goes = λ E s boot parts layout below none shows.
          let two = copies E s boot parts layout below none shows in
          follows-after {T = Unit {0}} (Err st) E old mid new s (within boot parts image copied.bytes) (between boot (filled parts image copied.bytes true)) two
          (call-follows (Unit {0}) (λ (_ : Unit {0}). reply.Success) st E (call.Commit 1 0) mid new s
          (within boot parts image copied.bytes) (between boot (filled parts image copied.bytes true)) (between boot (filled parts image copied.bytes true))
          reply.Success was now (layout ∙ sym two.stays.layout) two.shows
          (commit-answers E s boot parts image below copied.bytes 0) no-success here goes (commits E.passes));
    }

    -- and committed, or not
    pub image-ended : (new : Moment) (result : Result (Unit {0}) Stop) (was now : Bool) → IsFalse was → GoesBy result was now
        → ((passes : List ℕ → Bool) → MeetsAs {T = Unit {0}} (λ _. reply.Success) result passes (call.Commit 1 0) mid new)
        → CopiesImage image result old new
    image-ended new (Ok x) was now here goes commits = image-copied new commits
    image-ended new (Err st) was now here goes commits = image-uncommitted new st was now here goes commits
