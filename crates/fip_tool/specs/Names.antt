-- Which accesses to files the words don't name, which a refusal has no use for, and which stops what the words ask for may end
-- with, whatever files there are.
use Rattle.std.specs.Prelude.{◌≡◌, ◌≢◌, ◌≤◌, ⊤, ℕ, List, [], Option, Some, None, All}
use Rattle.host_io.specs.Access.{Access, Asks, Makes}
use Rattle.fip_words.specs.Order.{FipAsked, info, info_of_source, create, update, remove, unpack, manifest, capsule, repackage}
use Rattle.fip_making.specs.declared.stops.Stop.{Stop}
use Rattle.fip_making.specs.Stops.{IsLate, IsManifestStop, IsOfCapsule, IsOfEntries, IsOfSource, IsPackageStop, PackingOr}
use Rattle.fip_making.specs.declared.stops.Stop.TheVariants as stop
use Rattle.fip_tool.specs.Lines.{unpacked_name}

-- it makes no file of the payload of a named type, or of any type where none is named
abbrev pub MakesNoneFor : List ℕ → List (List ℕ) → Access → Type 0
MakesNoneFor prefix [] access = (guid : List ℕ) → access ≢ Makes (unpacked_name prefix guid)
MakesNoneFor prefix names access = All (λ guid. access ≢ Makes (unpacked_name prefix guid)) names

-- it asks for none of the files that are to be read, and makes none of those that are to be made
abbrev pub IsUnnamedBy : Option FipAsked → Access → Type 0
IsUnnamedBy None access = ⊤
IsUnnamedBy (Some (info file)) access = access ≢ Asks file
IsUnnamedBy (Some info_of_source) access = ⊤
IsUnnamedBy (Some (create align out parts)) access = All (λ p. access ≢ Asks p.file) parts × (access ≢ Makes out)
IsUnnamedBy (Some (update align from out parts)) access =
    (access ≢ Asks from) × All (λ p. access ≢ Asks p.file) parts × (access ≢ Makes out)
IsUnnamedBy (Some (remove align from out names)) access = (access ≢ Asks from) × (access ≢ Makes out)
IsUnnamedBy (Some (unpack from prefix names)) access = (access ≢ Asks from) × MakesNoneFor prefix names access
IsUnnamedBy (Some (manifest out security rows)) access = All (λ r. access ≢ Asks r.file) rows × (access ≢ Makes out)
IsUnnamedBy (Some (capsule from out)) access = (access ≢ Asks from) × (access ≢ Makes out)
IsUnnamedBy (Some (repackage align from out)) access = (access ≢ Asks from) × (access ≢ Makes out)

-- it asks for none of the files that are to be read
abbrev pub IsUnasked : FipAsked → Access → Type 0
IsUnasked (info file) access = access ≢ Asks file
IsUnasked info_of_source access = ⊤
IsUnasked (create align out parts) access = All (λ p. access ≢ Asks p.file) parts
IsUnasked (update align from out parts) access = (access ≢ Asks from) × All (λ p. access ≢ Asks p.file) parts
IsUnasked (remove align from out names) access = access ≢ Asks from
IsUnasked (unpack from prefix names) access = access ≢ Asks from
IsUnasked (manifest out security rows) access = All (λ r. access ≢ Asks r.file) rows
IsUnasked (capsule from out) access = access ≢ Asks from
IsUnasked (repackage align from out) access = access ≢ Asks from

-- the status of a refusal
abbrev pub IsRefusalStatus : ℕ → Type 0
IsRefusalStatus status = (4 ≤ status) × (status ≤ 8)

-- A refusal makes no file, and asks for those alone that it comes by: where a package to be updated is none or lacks an entry, for
-- the package.
abbrev pub IsUnneeded : Option FipAsked → ℕ → Access → Type 0
IsUnneeded None status access = ⊤
IsUnneeded (Some (update align from out parts)) status access =
    (access ≢ Asks from) × (status ≡ 6 → All (λ p. access ≢ Asks p.file) parts)
IsUnneeded (Some asked) status access = IsUnasked asked access

-- ---- stops

-- what the words ask for may end so
abbrev pub MayRefuse : Option FipAsked → Stop → Type 0
MayRefuse None stop.Usage = ⊤
MayRefuse None s = IsLate s
MayRefuse (Some (info file)) s = IsPackageStop s
MayRefuse (Some info_of_source) s = IsOfSource s
MayRefuse (Some (create align out parts)) s = PackingOr IsLate s
MayRefuse (Some (update align from out parts)) s = PackingOr IsOfEntries s
MayRefuse (Some (remove align from out names)) s = PackingOr IsOfEntries s
MayRefuse (Some (unpack from prefix names)) s = IsOfEntries s
MayRefuse (Some (manifest out security rows)) s = IsManifestStop s
MayRefuse (Some (capsule from out)) s = PackingOr IsPackageStop s
MayRefuse (Some (repackage align from out)) s = PackingOr IsOfCapsule s
