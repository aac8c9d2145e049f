-- No fault of a package is a refused boot, nor is what `send` answers to a file without a table.
use Rattle.std.proofs.Common.{ℕ, ◌*◌, List, [], ◌∷◌, Option, Some, None, Result, Ok, Err, refl, IsFalse, IfSome, ltb}
use Rattle.std.proofs.lemmas.Bool.{cond_both}
use Rattle.std.specs.List.{list_any}
use Rattle.std.specs.Prelude.{IfErr}
use Rattle.std.specs.Option.{option_or}
use Rattle.fwu_formats.specs.{Layout.ImageRow, Capsule.is_capsule, Capsule.capsule_of, Package.has_image}
use Rattle.fwu_formats.specs.Package.{Toc, Entry, toc_of, entry_of}
use Rattle.fwu_model.specs.{Reply.Reply, Run.is_refused_boot}
use Rattle.fwu_model.specs.Answer.{first_image_fault, image_fault, table_in, table_or, first_size_fault, partial_fault, size_fault, too_large, type_of_image}
use Rattle.fwu_model.specs.Reply as reply

abbrev pub NoBoot : Option Reply → Type 0
NoBoot o = IfSome o (λ r. IsFalse (is_refused_boot r))

abbrev pub NoBootErr : Result Toc Reply → Type 0
NoBootErr t = IfErr t (λ r. IsFalse (is_refused_boot r))

large-kind : (r : ImageRow) (e : Entry) → NoBoot (too_large r e)
large-kind r e = cond_both (ltb (4096 * r.slots) e.size) (Some (reply.TooLarge r.guid)) None NoBoot (λ h. refl) (λ h. tt)

or-kind : (a b : Option Reply) → NoBoot a → NoBoot b → NoBoot (option_or a b)
or-kind None b first second = second
or-kind (Some r) b first second = first

image-kind : (r : ImageRow) (found : Option Entry) → NoBoot (image_fault r found)
image-kind r None = refl
image-kind r (Some e) = large-kind r e

pub fault-kind : (rows : List ImageRow) (toc : Toc) → NoBoot (first_image_fault rows toc)
unfolding first_image_fault
fault-kind [] toc = tt
fault-kind (r ∷ rows) toc = or-kind _ (first_image_fault rows toc) (image-kind r (entry_of toc r.guid)) (fault-kind rows toc)

size-kind : (r : ImageRow) (found : Option Entry) → NoBoot (size_fault r found)
size-kind r None = tt
size-kind r (Some e) = large-kind r e

sizes-kind : (rows : List ImageRow) (toc : Toc) → NoBoot (first_size_fault rows toc)
unfolding first_size_fault
sizes-kind [] toc = tt
sizes-kind (r ∷ rows) toc = or-kind _ (first_size_fault rows toc) (size-kind r (entry_of toc r.guid)) (sizes-kind rows toc)

pub partial-kind : (rows : List ImageRow) (toc : Toc) → NoBoot (partial_fault rows toc)
partial-kind rows toc =
    cond_both (list_any (has_image toc) rows) (first_size_fault rows toc) (Some (reply.Missing (type_of_image rows 0))) NoBoot
    (λ e. sizes-kind rows toc) (λ e. refl)

table_or-kind : {F : Type 0} (says : F → Reply) (toc : Result Toc F) → ((f : F) → IsFalse (is_refused_boot (says f)))
    → NoBootErr (table_or says toc)
table_or-kind says (Ok toc) is = tt
table_or-kind says (Err f) is = is f

pub table-kind : (file : List ℕ) → NoBootErr (table_in file)
table-kind file =
    cond_both (is_capsule file) (table_or reply.BadCapsule (capsule_of file)) (table_or reply.BadPackage (toc_of file)) NoBootErr
    (λ e. table_or-kind reply.BadCapsule (capsule_of file) (λ f. refl))
    (λ e. table_or-kind reply.BadPackage (toc_of file) (λ f. refl))
