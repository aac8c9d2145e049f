-- The list of digests that the words may name: whose manifests pass, and what is known of its bytes.
use Rattle.std.proofs.Common.{◌≡◌, ◌≤◌, ◌⊎◌, ℕ, Bool, true, false, List, ◌∷◌, Option, Some, None, Ok, Err, refl, sym, ap, subst, ◌∙◌, inl, inr}
use Rattle.std.specs.Prelude.{IfSome, IsTrue, codes, []}
use Rattle.std.proofs.lemmas.Bool.{false≢true}
use Rattle.flash_core.specs.Counts.{Rose}
use Rattle.fwu_model.specs.{Reply.Turn, Causes.Faults, Causes.LacksList, declared.kinds.Note.Note}
use Rattle.fwu_formats.specs.{Words.is_file, Digests.digests_of, Digests.passes_any, Digests.passes_listed}
use Rattle.flash_commands.specs.Showing.{RefusedList}
use Rattle.script_runs.proofs.{TopWays.world-of, TopWays.refuses, TopSources.by-plan}
use Rattle.fwu_model.specs.Allow.{after_list, asks_list, list_bytes, list_name}
use Rattle.host_io.specs.{Contents.Directory, Contents.Holds, Printed.Prints}
use Rattle.host_io.specs.Whole as whole
use Rattle.fwu_words.specs.{Order.Asked, Order.asked, Allow.NamesList, Allow.NamesNone}
use Rattle.script_turns.specs.Powered.{TurnMoment}
use Rattle.script_runs.specs.Ways.{HasGoodList}
use Rattle.script_cmd.specs.Handed.{asked_after, asked_with_list}
use Rattle.script_cmd.specs.Handed.{HasPasses, IsIdle, ReadsList, StandsIn, may_lack_list}

none_some : (bytes : List ℕ) → None ≡ Some bytes → ⊥
none_some bytes e = cc

-- a list that was read has no bad line
pub no-bad-line : (bytes : List ℕ) (digests : List (List ℕ)) → digests_of bytes ≡ Ok digests → (n : ℕ) → digests_of bytes ≡ Err n → ⊥
no-bad-line bytes digests read n bad = cc

-- the bytes of a file that was read, where the files are told
pub bytes-there : (files : Option Directory) (name bytes : List ℕ) → Holds files name bytes
    → (directory : Directory) → files ≡ Some directory → directory name ≡ Some bytes
bytes-there files name bytes holds directory told = subst (λ (o : Option Directory). Holds o name bytes) told holds

-- a list that was not read is one that is not there, or a call failed
pub list-lacks : (files : Option Directory) (name : List ℕ) (before after : ℕ) → Rose before after ⊎ whole.LacksFile files name
    → Rose before after ⊎ LacksList files (Some name)
list-lacks files name before after (inl rose) = inl rose
list-lacks None name before after (inr lacks) = elim lacks [ ]
list-lacks (Some directory) name before after (inr lacks) = inr lacks

-- a fact of a list's bytes, where the files are told
pub of-list : (files : Option Directory) (name bytes : List ℕ) (P : List ℕ → Type 0) → ((directory : Directory) → files ≡ Some directory → directory name ≡ Some bytes) → P bytes → IfSome (list_bytes (Some name) files) P
of-list None name bytes P whole p = tt
of-list (Some directory) name bytes P whole p = subst (λ (o : Option (List ℕ)). IfSome o P) (sym (whole directory refl)) p

-- a list that was read, where the files are told, is there
pub list-there : (files : Option Directory) (name bytes : List ℕ) → ((directory : Directory) → files ≡ Some directory → directory name ≡ Some bytes) → LacksList files (Some name) → ⊥
list-there None name bytes whole lacks = lacks
list-there (Some directory) name bytes whole lacks = let both = sym lacks ∙ whole directory refl in none_some bytes both

pub good-list : (files : Option Directory) (name bytes : List ℕ) (digests : List (List ℕ)) → ((directory : Directory) → files ≡ Some directory → directory name ≡ Some bytes)
    → digests_of bytes ≡ Ok digests → HasGoodList (Some name) files
good-list files name bytes digests whole read = record {
  there = list-there files name bytes whole;
  good = of-list files name bytes (λ (l : List ℕ). (n : ℕ) → digests_of l ≡ Err n → ⊥) whole (no-bad-line bytes digests read);
}

-- ---- whose manifests pass

pub has-any : (asks : Bool) (list : Option (List ℕ)) (files : Option Directory) → asks ≡ false → HasPasses asks list files passes_any
has-any asks list files unasked = record {
  any = λ again. refl;
  listed = λ is. absurd (false≢true (sym unasked ∙ is));
}

stands-in : (files : Option Directory) (name bytes : List ℕ) → ((directory : Directory) → files ≡ Some directory → directory name ≡ Some bytes) → StandsIn files name bytes
stands-in None name bytes whole = tt
stands-in (Some directory) name bytes whole = whole directory refl

pub reads-list : (name bytes : List ℕ) (digests : List (List ℕ)) (files : Option Directory) → ((directory : Directory) → files ≡ Some directory → directory name ≡ Some bytes) → digests_of bytes ≡ Ok digests
    → ReadsList (Some name) files (passes_listed digests)
reads-list name bytes digests files whole read = record {
  name = name;
  named = refl;
  bytes = bytes;
  stands = stands-in files name bytes whole;
  digests = digests;
  is_list = read;
  passes_are = refl;
}

-- nothing was done, for want of memory or for a line that stands alone
pub idles : (journal : List Turn) (status : ℕ) (old new : TurnMoment) → journal ≡ [] → new ≡ old → status ≡ 9 → IsIdle journal status old new
idles journal status old new none same nine = record { no_turns = none; same = same; status_is = subst (λ (n : ℕ). IsTrue (may_lack_list n)) (sym nine) refl }

pub idles-at : (journal : List Turn) (status : ℕ) (old new : TurnMoment) (line : List ℕ) (planned : ℕ) (taken_before taken_after : Option (List ℕ)) (faults_before faults_after : ℕ) → journal ≡ [] → new ≡ old → IsTrue (may_lack_list planned)
    → Prints line planned status taken_before taken_after faults_before faults_after → IsIdle journal status old new
idles-at journal status old new line planned taken_before taken_after faults_before faults_after none same lacks prints =
    record { no_turns = none; same = same; status_is = by-plan line planned status taken_before taken_after faults_before faults_after prints may_lack_list refl refl lacks }

-- ---- the words

-- words that ask for no list name none
no-name : (words : List (List ℕ)) → asks_list words ≡ false → list_name words ≡ None
no-name [] e = refl
no-name (w ∷ []) e = refl
no-name (w ∷ name ∷ words) e = rw e refl

pub no-list : (words : List (List ℕ)) → asks_list words ≡ false → (asked_with_list words ≡ asked words) × (list_name words ≡ None)
no-list words e = (ap (λ (b : Bool). asked_after b (list_name words) words) e, no-name words e)

pub no-words : (words : List (List ℕ)) → NamesNone words → asked_with_list words ≡ None
no-words words none = ap (λ (b : Bool). asked_after b (list_name words) words) none.asks ∙ ap (λ (l : Option (List ℕ)). asked_after true l words) none.none

-- those that begin with a list
pub some-list : (words rest : List (List ℕ)) (name : List ℕ) → NamesList words name rest → (asked_with_list words ≡ asked rest) × (asks_list words ≡ true) × (list_name words ≡ Some name)
some-list words rest name names =
    subst (λ (l : List (List ℕ)). (asked_with_list l ≡ asked rest) × (asks_list l ≡ true) × (list_name l ≡ Some name)) (sym names.whole) (at-list rest name names.file)
  where
    at-list : (rest : List (List ℕ)) (name : List ℕ) → IsTrue (is_file name)
        → (asked_with_list (codes "--allow" ∷ name ∷ rest) ≡ asked rest) × (asks_list (codes "--allow" ∷ name ∷ rest) ≡ true) × (list_name (codes "--allow" ∷ name ∷ rest) ≡ Some name)
    at-list rest name file =
        let words : List (List ℕ) = codes "--allow" ∷ name ∷ rest in
        let named : list_name words ≡ Some name = rw file refl in
        let behind : after_list words ≡ rest = rw file refl in
        (ap (λ (l : Option (List ℕ)). asked_after true l words) named ∙ ap asked behind, refl, named)

-- ---- lists

-- where no list is named, none has a bad line
pub none-bad : (list : Option (List ℕ)) (files : Option Directory) → list ≡ None → HasGoodList list files
none-bad list files is = subst (λ (l : Option (List ℕ)). HasGoodList l files) (sym is) (record { there = λ lacks. lacks; good = tt })

pub no-list-named : {files : Option Directory} → HasGoodList None files
no-list-named = record { there = λ lacks. lacks; good = tt }

-- ---- behind a list that was read and is one

-- a line is put as from the sink's count before the list
pub from-sink : {line : List ℕ} {planned status : ℕ} {taken_before taken_after : Option (List ℕ)} {first before after : ℕ}
    → first ≡ before → Prints line planned status taken_before taken_after before after
    → Prints line planned status taken_before taken_after first after
from-sink {line} {planned} {status} {taken_before} {taken_after} {first} {before} {after} sink prints =
    subst (λ (n : ℕ). Prints line planned status taken_before taken_after n after) (sym sink) prints

module _ (told files : Option Directory) (name : List ℕ) (script : Option (List ℕ)) (old new : TurnMoment) (status : ℕ) (noted : Note)
    (taken_before taken_after : Option (List ℕ)) (first faults_before faults_after : Faults) where
  pub refused-behind : (wanted : Asked) → HasGoodList (Some name) files → first.files ≤ faults_before.files
      → first.source ≡ faults_before.source → first.sink ≡ faults_before.sink
      → RefusedList wanted (record { list = None; files = told; script = script }) status noted (world-of old taken_before faults_before)
      (world-of new taken_after faults_after)
      → RefusedList wanted (record { list = Some name; files = files; script = script }) status noted (world-of old taken_before first)
      (world-of new taken_after faults_after)
  refused-behind wanted good later source sink (planned, line, why, prints) = (
    planned,
    line,
    refuses (Some wanted) told files name script first faults_before faults_after planned noted line good later source why,
    from-sink sink prints,
  )
