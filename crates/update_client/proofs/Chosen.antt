-- The faults of images, as the machine tells them, and the entries that were chosen.
use Rattle.std.proofs.Common.{◌≡◌, cond, ◌*◌, ◌<◌, Bool, true, false, List, [], ◌∷◌, length, get_or, Option, Some, None, Ok, refl, sym, ap, subst, ◌∙◌, arith}
use Rattle.std.proofs.lemmas.List.{get_or_default}
use Rattle.std.specs.Prelude.{nat_lt, option_map}
use Rattle.std.specs.List.{All, list_any}
use Rattle.std.specs.Option.{option_or}
use Rattle.fwu_formats.specs.{Layout.ImageRow, Package.Entry, Package.Toc, Package.entry_of, Layout.no_row, Package.has_image}
use Rattle.fwu_model.specs.Reply.{Reply}
use Rattle.fwu_model.specs.Answer.{first_image_fault, first_size_fault, partial_fault, size_fault, image_fault as machine_fault}
use Rattle.fwu_model.specs.Reply as reply
use Rattle.fip_tables.specs.declared.images.ImageFault.{ImageFault}
use Rattle.fip_tables.specs.declared.images.ImageFault.TheVariants.{Missing, TooLarge}
use Rattle.fip_tables.specs.Images.{AreImages, image_fault, images_fault, lowest_fault, no_entry, present_fault, size_fault as table_fault, ArePresent as AreThere}
use Rattle.fip_tables.proofs.Chosen.{found_has}
use Rattle.update_client.specs.{declared.stops.SendStop.SendStop, Partial.SendsPresent}
use Rattle.update_client.specs.Sends.{Chooses, refused_as, refused_image}

abbrev reply_of : ImageFault → Reply
reply_of (Missing guid) = reply.Missing guid
reply_of (TooLarge guid) = reply.TooLarge guid

too-large : (r : ImageRow) (b : Bool) (rest : Option Reply) (faults : Option ImageFault) → rest ≡ option_map reply_of faults
    → option_or (cond b (Some (reply.TooLarge r.guid)) None) rest ≡ option_map reply_of (option_or (cond b (Some (TooLarge r.guid)) None) faults)
too-large r true rest faults is = refl
too-large r false rest faults is = is

-- ---- of all images

next-fault : (r : ImageRow) (o : Option Entry) (rest : Option Reply) (faults : Option ImageFault) → rest ≡ option_map reply_of faults
    → option_or (machine_fault r o) rest ≡ option_map reply_of (option_or (image_fault r o) faults)
next-fault r None rest faults is = refl
next-fault r (Some e) rest faults is = too-large r (nat_lt (4096 * r.slots) e.size) rest faults is

same-fault : (rows : List ImageRow) (toc : Toc) → first_image_fault rows toc ≡ option_map reply_of (images_fault rows toc)
unfolding first_image_fault
same-fault [] toc = refl
same-fault (r ∷ rows) toc = next-fault r (entry_of toc r.guid) (first_image_fault rows toc) (images_fault rows toc) (same-fault rows toc)

-- ---- of those that the table has

next-size : (r : ImageRow) (o : Option Entry) (rest : Option Reply) (faults : Option ImageFault) → rest ≡ option_map reply_of faults
    → option_or (size_fault r o) rest ≡ option_map reply_of (option_or (table_fault r o) faults)
next-size r None rest faults is = is
next-size r (Some e) rest faults is = too-large r (nat_lt (4096 * r.slots) e.size) rest faults is

same-size : (rows : List ImageRow) (toc : Toc) → first_size_fault rows toc ≡ option_map reply_of (lowest_fault table_fault rows toc)
unfolding first_size_fault
same-size [] toc = refl
same-size (r ∷ rows) toc = next-size r (entry_of toc r.guid) (first_size_fault rows toc) (lowest_fault table_fault rows toc) (same-size rows toc)

same-partial : (rows : List ImageRow) (toc : Toc) → partial_fault rows toc ≡ option_map reply_of (present_fault rows toc)
same-partial rows toc = by-test (list_any (has_image toc) rows)
  where
    by-test : (b : Bool) → cond b (first_size_fault rows toc) (Some (reply.Missing (get_or rows 0 no_row).guid))
        ≡ option_map reply_of (cond b (lowest_fault table_fault rows toc) (Some (Missing (get_or rows 0 no_row).guid)))
    by-test true = same-size rows toc
    by-test false = refl

-- ---- what is answered

refused-is : (fault : ImageFault) → refused_image (Some (reply_of fault)) ≡ Some (refused_as fault)
refused-is (Missing guid) = refl
refused-is (TooLarge guid) = refl

refused-by : (o : Option Reply) (faults : Option ImageFault) (fault : ImageFault) (stop : SendStop) → o ≡ option_map reply_of faults → faults ≡ Some fault
    → stop ≡ refused_as fault → refused_image o ≡ Some stop
refused-by o faults fault stop same is said =
    ap refused_image (same ∙ ap (option_map reply_of) is) ∙ refused-is fault ∙ ap (λ (s : SendStop). Some s) (sym said)

pub all-chosen : (rows : List ImageRow) (toc : Toc) (entries : List Entry) → AreImages rows toc entries → Chooses rows toc (Ok entries)
all-chosen rows toc entries are = (same-fault rows toc ∙ ap (option_map reply_of) are.none, are)

pub all-refused : (rows : List ImageRow) (toc : Toc) (fault : ImageFault) (stop : SendStop) → images_fault rows toc ≡ Some fault → stop ≡ refused_as fault
    → refused_image (first_image_fault rows toc) ≡ Some stop
all-refused rows toc fault stop is said = refused-by (first_image_fault rows toc) (images_fault rows toc) fault stop (same-fault rows toc) is said

pub present-chosen : (rows : List ImageRow) (toc : Toc) (entries : List Entry) → AreThere rows toc entries → SendsPresent rows toc (Ok entries)
present-chosen rows toc entries are = (same-partial rows toc ∙ ap (option_map reply_of) are.none, are.entries_are)

pub present-refused : (rows : List ImageRow) (toc : Toc) (fault : ImageFault) (stop : SendStop) → present_fault rows toc ≡ Some fault → stop ≡ refused_as fault
    → refused_image (partial_fault rows toc) ≡ Some stop
present-refused rows toc fault stop is said = refused-by (partial_fault rows toc) (present_fault rows toc) fault stop (same-partial rows toc) is said

-- what holds of each entry of a table holds of each that was chosen
pub chosen_have : (P : Entry → Type 0) (rows : List ImageRow) (toc : Toc) (entries : List Entry) → AreImages rows toc entries
    → All P toc.entries → All P entries
chosen_have P rows toc entries chosen all k d below =
    let within : k < length rows = omega (arith, below, chosen.count) in
    subst P (get_or_default entries k no_entry d below) (found_has P (get_or rows k no_row).guid toc.entries (get_or entries k no_entry) all
    (chosen.each k within))
