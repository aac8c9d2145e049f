-- An image that is written piece by piece.
use Rattle.std.proofs.Common.{◌≡◌, ℕ, zero, suc, ◌+◌, ◌<◌, ◌≤◌, List, [], ◌∷◌, ◌++◌, length, take, drop, Option, Ok, Err, refl, sym, ap, ◌∙◌, arith, length-append}
use Rattle.std.proofs.Math.Seq.{take-add}
use Rattle.host_io.specs.Contents.{Directory}
use Rattle.fwu_formats.specs.{Package.Entry, Package.payload, Layout.slot_bytes}
use Rattle.fwu_model.specs.{State.State, Sound.Setting, Session.Session, Session.Staged}
use Rattle.fip_tables.specs.Files.{Tells}
use Rattle.agent_machine.specs.{Moment.Moment, Moment.Shows, Goes.GoesByMoves, Filling.within}
use Rattle.agent_machine.proofs.Going.{goes-then, goes-nothing}
use Rattle.update_client.proofs.Halting.{halts-after}
use Rattle.update_client.specs.{declared.stops.SendStop.SendStop, Halts.Halts, Images.WritesPiece, Images.WritesImage}
use Rattle.update_client.specs.declared.stops.SendStop.TheVariants.{ReadFailed}

-- the first bytes of a payload were read and written
pub record WritesFirst (told : Option Directory) (name : List ℕ) (e : Entry) (at : ℕ) (old new : Moment) : Type 0 where
  pub bytes : List ℕ
  pub count : length bytes ≡ at
  pub read : (file : List ℕ) → Tells told name file → bytes ≡ take at (payload file e)
  pub goes : (E : Setting) (s : State) (boot : ℕ) (parts : List Staged) (image : ℕ) → E.layout ≡ old.fields.layout
      → image < length parts
      → e.size ≤ slot_bytes E.layout image → Shows old s (within boot parts image [])
      → GoesByMoves E (Ok tt) old new s [] (within boot parts image bytes)

pub first-none : (told : Option Directory) (name : List ℕ) (e : Entry) (m : Moment) → WritesFirst told name e 0 m m
first-none told name e m = record {
  bytes = [];
  count = refl;
  read = λ file tells. refl;
  goes = λ E s boot parts image layout below room shows. goes-nothing E m s (within boot parts image []) shows;
}

-- one more piece
module _ (told : Option Directory) (name : List ℕ) (e : Entry) (at : ℕ) (old mid new : Moment) (first : WritesFirst told name e at old mid) where
  pub first-more : (n : ℕ) → WritesPiece told name e at (Ok n) mid new → WritesFirst told name e (at + n) old new
  first-more n piece = record {
    bytes = first.bytes ++ piece.bytes;
    count = omega (arith, length-append first.bytes piece.bytes, first.count, piece.count.0);
    read = λ file tells. ap (λ (b : List ℕ). b ++ piece.bytes) (first.read file tells) ∙ ap (λ (b : List ℕ). take at (payload file e) ++ b)
        (piece.read file tells) ∙ sym (take-add at n (payload file e));
    goes = λ E s boot parts image layout below room shows.
        let one = first.goes E s boot parts image layout below room shows in
        goes-then E (Ok tt) old mid new s [] [] (within boot parts image first.bytes) (within boot parts image (first.bytes ++ piece.bytes)) one
        (piece.goes E s boot parts image first.bytes (layout ∙ sym one.stays.layout) below first.count room one.shows);
  }

  -- the piece was stopped
  pub image-stopped : (stop : SendStop) → WritesPiece told name e at (Err stop) mid new → WritesImage told name e (Err stop) old new
  image-stopped stop piece = record {
    bytes = first.bytes ++ piece.bytes;
    count = tt;
    read = tt;
    goes = λ E s boot parts image layout below room shows.
        let one = first.goes E s boot parts image layout below room shows in
        halts-after {T = Unit {0}} (Err stop) E old mid new s boot (within boot parts image first.bytes)
        (within boot parts image (first.bytes ++ piece.bytes)) one
        (as-unit stop E mid new s boot (within boot parts image (first.bytes ++ piece.bytes))
        (piece.goes E s boot parts image first.bytes (layout ∙ sym one.stays.layout) below first.count room one.shows));
  }
    where
      as-unit : (stop : SendStop) (E : Setting) (mid new : Moment) (s : State) (boot : ℕ) (y : Session)
          → Halts {T = ℕ} (Err stop) E mid new s boot y → Halts {T = Unit {0}} (Err stop) E mid new s boot y
      as-unit ReadFailed E mid new s boot y h = h
      as-unit q E mid new s boot y h = h

  -- that was all
  pub image-done : e.size ≤ at → at ≤ e.size → WritesImage told name e (Ok tt) old mid
  image-done low high = record {
    bytes = first.bytes;
    count = omega (arith, first.count, low, high);
    read = λ file tells. first.read file tells ∙ take-of-take at e.size (drop e.offset file) low;
    goes = first.goes;
  }
    where
      take-of-take : (n m : ℕ) (l : List ℕ) → m ≤ n → take n (take m l) ≡ take m l
      take-of-take zero zero l le = refl
      take-of-take zero (suc m) l le = absurd (omega (arith, le))
      take-of-take (suc n) zero l le = refl
      take-of-take (suc n) (suc m) [] le = refl
      take-of-take (suc n) (suc m) (x ∷ l) le = ap (λ (ys : List ℕ). x ∷ ys) (take-of-take n m l (omega (arith, le)))
