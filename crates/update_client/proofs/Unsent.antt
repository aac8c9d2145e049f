-- A sending that was not done, by how it ended.
use Rattle.std.proofs.Common.{◌≡◌, ◌+◌, ◌*◌, ◌<◌, ℕ, Bool, false, List, length, take, get_or, Option, Result, Ok, Err, refl, sym, subst, ◌∙◌, arith}
use Rattle.std.specs.Prelude.{◌==◌}
use Rattle.flash_core.specs.declared.flash.Arming.{Arming}
use Rattle.host_io.specs.Contents.{Directory}
use Rattle.fwu_formats.specs.Package.{Entry}
use Rattle.fwu_model.specs.Call as call
use Rattle.fwu_model.specs.Reply as reply
use Rattle.agent_machine.specs.Moment.{Moment}
use Rattle.agent_machine.proofs.CallGoing.{MeetsAs}
use Rattle.agent_calls.specs.Takes.{Takes, writes_of_pieces}
use Rattle.agent_calls.proofs.{Pieces.next-piece, Taking.takes-then}
use Rattle.update_client.specs.{declared.stops.SendStop.SendStop, Halts.StopsEnd, Halts.is_unread}
use Rattle.update_client.specs.declared.stops.SendStop.TheVariants.{End, ReadFailed}
use Rattle.update_client.specs.Images.{SendsImages, no_entry, sent_parts}
use Rattle.update_client.specs.Takes.{AllUnstagedTake, ImagesTake, OnRefusedEnd, OnUnread, TakesFirst, TakesFront, UnstagedTakes, UnwrittenTakes, writes_in}
use Rattle.update_client.proofs.{SentImages.SendsFirst, ImagesTaking.FirstTaken, WrittenPiece.image-opened}
use Rattle.update_client.proofs.Staging.{sent-long, sent-other}

-- ---- which stop it is

-- the end reads no file
pub end-read : (T : Type 0) (result : Result T SendStop) (P : Type 0) → StopsEnd result → OnUnread result P
end-read T (Ok x) P stops = tt
end-read T (Err ReadFailed) P stops = absurd stops
end-read T (Err s) P stops = tt

pub other-read : (T : Type 0) (st : SendStop) (P : Type 0) → is_unread st ≡ false → OnUnread {T = T} (Err st) P
other-read T ReadFailed P other = absurd cc
other-read T s P other = tt

-- ---- handed on

pub unread-then : (T U : Type 0) (st : SendStop) (P Q : Type 0) → (P → Q) → OnUnread {T = T} (Err st) P → OnUnread {T = U} (Err st) Q
unread-then T U ReadFailed P Q by is = by is
unread-then T U s P Q by is = tt

pub end-then : (T U : Type 0) (st : SendStop) (P Q : Type 0) → (P → Q) → OnRefusedEnd {T = T} (Err st) P → OnRefusedEnd {T = U} (Err st) Q
end-then T U (End st) P Q by is = by is
end-then T U s P Q by is = tt

pub end-of : (T : Type 0) (result : Result T SendStop) (P Q : Type 0) → (P → Q) → OnRefusedEnd result P → OnRefusedEnd result Q
end-of T (Ok x) P Q by is = tt
end-of T (Err st) P Q by is = end-then T T st P Q by is

-- ---- what was written by then

-- a read failed behind the first pieces
pub front-takes : (size : ℕ) (e : Entry) (at : ℕ) (old : Moment) (a b c : Option Arming) → at < e.size → c ≡ b → FirstTaken size e at old a b
    → TakesFront size e (λ w. UnwrittenTakes w e old a c)
front-takes size e at old a b c more same front =
    let here : at ≡ size * front.count = next-piece size e.size at front.count front.pieces more in
    record {
      pieces = front.count;
      more = omega (arith, more, here);
      takes = λ E s boot parts image layout below room shows.
          subst (λ (arming : Option Arming). Takes (writes_of_pieces size e.size front.count) a arming) (sym same)
          (front.takes E s boot parts image layout below room shows);
    }

-- of an image that was opened
pub image-starts : (size : ℕ) (e : Entry) (h : ℕ) (old opened : Moment) (a b c : Option Arming)
    → ((passes : List ℕ → Bool) → MeetsAs {T = ℕ} (λ k. reply.Opened k) (Ok h) passes (call.OpenWrite e.guid) old opened) → b ≡ a
    → TakesFront size e (λ w. UnwrittenTakes w e opened b c) → TakesFront size e (λ w. UnstagedTakes w e old a c)
image-starts size e h old opened a b c opens still front = record {
  pieces = front.pieces;
  more = front.more;
  takes = λ E s boot parts image layout below found room none shows.
      let one = image-opened e.guid h old opened opens E s boot parts image layout below found none shows in
      subst (λ (armed : Option Arming). Takes (writes_of_pieces size e.size front.pieces) armed c) still
      (front.takes E s boot parts image (layout ∙ sym one.stays.layout) below room one.shows);
}

-- behind the first images
pub images-start : (told : Option Directory) (name : List ℕ) (size : ℕ) (entries : List Entry) (request k : ℕ) (old mid : Moment) (a b c : Option Arming)
    → k < length entries → SendsFirst told name entries request k old mid → ImagesTake size entries k old a b
    → TakesFront size (get_or entries k no_entry) (λ w. UnstagedTakes w (get_or entries k no_entry) mid b c) → TakesFirst size entries (AllUnstagedTake entries old a c)
images-start told name size entries request k old mid a b c below first takes image = record {
  images = k;
  pieces = image.pieces;
  below = below;
  more = image.more;
  takes = λ E s boot parts places layout are shows.
      let one = first.goes E s boot parts places layout are shows in
      let at : length first.images ≡ k = first.count in
      let bit = request == 0 in
      takes-then (writes_in size (take k entries)) (writes_of_pieces size (get_or entries k no_entry).size image.pieces)
      (writes_in size (take k entries) + writes_of_pieces size (get_or entries k no_entry).size image.pieces) a b c refl (takes E s boot parts places layout are shows)
      (image.takes E s boot (sent_parts parts first.images places bit) (get_or places k 0) (layout ∙ sym one.stays.layout)
      (omega (arith, are.below k below, sent-long parts first.images places bit)) (are.found k below) (are.fit k below)
      (sent-other parts first.images places bit (get_or places k 0) (omega (arith, at, below, are.count))
      (λ j less. are.apart j k (omega (arith, less, at)) below) ∙ are.empty k below) one.shows);
}

-- no call of the sending of images is a refused end
pub images-no-end : (told : Option Directory) (name : List ℕ) (size : ℕ) (entries : List Entry) (request : ℕ) (st : SendStop) (old new : Moment) (a b : Option Arming)
    → SendsImages told name entries request (Err st) old new → OnRefusedEnd {T = Unit {0}} (Err st) (ImagesTake size entries (length entries) old a b)
images-no-end told name size entries request (End q) old new a b sent =
    λ E s boot parts places layout are shows. absurd (sent.goes E s boot parts places layout are shows)
images-no-end told name size entries request s old new a b sent = tt
