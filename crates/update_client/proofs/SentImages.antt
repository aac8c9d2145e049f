-- The images, one after another.
use Rattle.std.proofs.Common.{◌≡◌, ℕ, zero, suc, ◌+◌, ◌<◌, List, [], ◌∷◌, ◌++◌, length, take, map, get_or, Option, Result, Ok, Err, refl, sym, ap, subst, ◌∙◌, arith, length-append}
use Rattle.std.proofs.lemmas.List.{map-append, take_all}
use Rattle.std.specs.Prelude.{◌==◌}
use Rattle.host_io.specs.Contents.{Directory}
use Rattle.fwu_formats.specs.Package.{Entry, payload}
use Rattle.fwu_model.specs.{State.State, Sound.Setting, Session.Staged, Session.Nothing}
use Rattle.agent_machine.specs.{Moment.Moment, Moment.Shows, Goes.GoesByMoves, Filling.between, Filling.filled}
use Rattle.fip_tables.specs.Files.{Tells}
use Rattle.agent_machine.proofs.Going.{goes-nothing}
use Rattle.update_client.specs.{declared.stops.SendStop.SendStop, Halts.Halts, Images.SendsImage}
use Rattle.update_client.specs.Images.{AreUnstaged, SendsImages, no_entry, sent_parts}
use Rattle.update_client.proofs.{Staging.sent-long, Staging.sent-next, Staging.sent-other, Halting.halts-after}

-- the first images were read, written and committed
pub record SendsFirst (told : Option Directory) (name : List ℕ) (entries : List Entry) (request k : ℕ)
    (old new : Moment) : Type 0 where
  pub images : List (List ℕ)
  pub count : length images ≡ k
  pub read : (file : List ℕ) → Tells told name file → images ≡ map (payload file) (take k entries)
  pub goes : (E : Setting) (s : State) (boot : ℕ) (parts : List Staged) (places : List ℕ) → E.layout ≡ old.fields.layout
      → AreUnstaged E entries places parts → Shows old s (between boot parts)
      → GoesByMoves E (Ok tt) old new s [] (between boot (sent_parts parts images places (request == 0)))

pub take-next : (l : List Entry) (k : ℕ) → k < length l → take (k + 1) l ≡ take k l ++ get_or l k no_entry ∷ []
take-next [] k lt = absurd (omega (arith, lt))
take-next (x ∷ l) zero lt = refl
take-next (x ∷ l) (suc k) lt = let z : suc k + 1 ≡ suc (k + 1) = omega arith in ap (λ (n : ℕ). take n (x ∷ l)) z ∙ ap (λ (ys : List Entry). x ∷ ys)
    (take-next l k (omega (arith, lt)))

pub images-none : (told : Option Directory) (name : List ℕ) (entries : List Entry) (request : ℕ) (m : Moment)
    → SendsFirst told name entries request 0 m m
images-none told name entries request m = record {
  images = [];
  count = refl;
  read = λ file tells. refl;
  goes = λ E s boot parts places layout are shows. goes-nothing E m s (between boot parts) shows;
}

module _ (told : Option Directory) (name : List ℕ) (entries : List Entry) (request k : ℕ) (below : k < length entries) (old mid new : Moment)
    (first : SendsFirst told name entries request k old mid) where
  abbrev e : Entry
  e = get_or entries k no_entry

  next : (result : Result (Unit {0}) SendStop) (image : SendsImage told name e request result mid new) (E : Setting) (s : State) (boot : ℕ)
      (parts : List Staged) (places : List ℕ) → E.layout ≡ old.fields.layout → AreUnstaged E entries places parts → Shows old s (between boot parts)
      → Halts result E old new s boot (between boot (sent_parts parts (first.images ++ image.bytes ∷ []) places (request == 0)))
  next result image E s boot parts places layout are shows =
      let one = first.goes E s boot parts places layout are shows in
      let bit = request == 0 in
      let now = sent_parts parts first.images places bit in
      let at : length first.images ≡ k = first.count in
      let few : length first.images < length places = omega (arith, at, below, are.count) in
      let here : get_or places k 0 ≡ get_or places (length first.images) 0 = ap (λ (i : ℕ). get_or places i 0) (sym at) in
      let lt : get_or places k 0 < length now = omega (arith, are.below k below, sent-long parts first.images places bit) in
      let none : get_or now (get_or places k 0) Nothing ≡ Nothing = sent-other parts first.images places bit (get_or places k 0) (omega (arith, few))
      (λ j less. are.apart j k (omega (arith, less, at)) below) ∙ are.empty k below in
      halts-after result E old mid new s boot (between boot now)
      (between boot (sent_parts parts (first.images ++ image.bytes ∷ []) places bit)) one
      (subst (λ (ps : List Staged). Halts result E mid new s boot (between boot ps))
      (ap (λ (i : ℕ). filled now i image.bytes bit) here ∙ sent-next parts first.images places bit image.bytes few)
      (image.goes E s boot now (get_or places k 0) (layout ∙ sym one.stays.layout) lt (are.found k below) (are.fit k below) none one.shows))

  pub images-more : SendsImage told name e request (Ok tt) mid new → SendsFirst told name entries request (k + 1) old new
  images-more image = record {
    images = first.images ++ image.bytes ∷ [];
    count = omega (arith, length-append first.images (image.bytes ∷ []), first.count);
    read = λ file tells. ap (λ (l : List (List ℕ)). l ++ image.bytes ∷ []) (first.read file tells) ∙ ap
        (λ (b : List ℕ). map (payload file) (take k entries) ++ b ∷ []) (image.read file tells)
        ∙ sym (map-append (payload file) (take k entries) (e ∷ [])) ∙ ap (map (payload file)) (sym (take-next entries k below));
    goes = next (Ok tt) image;
  }

  pub images-stopped : (stop : SendStop) → SendsImage told name e request (Err stop) mid new
      → SendsImages told name entries request (Err stop) old new
  images-stopped stop image = record { images = first.images ++ image.bytes ∷ []; count = tt; read = tt; goes = next (Err stop) image }

pub images-done : (told : Option Directory) (name : List ℕ) (entries : List Entry) (request k : ℕ) (old new : Moment)
    → k ≡ length entries → SendsFirst told name entries request k old new → SendsImages told name entries request (Ok tt) old new
images-done told name entries request k old new all first = record {
  images = first.images;
  count = first.count ∙ all;
  read = λ file tells. first.read file tells ∙ ap (map (payload file)) (take_all k entries (omega (arith, all)));
  goes = first.goes;
}
