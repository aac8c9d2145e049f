-- What the program was handed, and which files a command does not ask for.
use Rattle.std.proofs.Common.{◌≤◌, ℕ, List, Option, ◌≡◌, ◌∙◌, Some, None, refl, sym, subst, arith}
use Rattle.fwu_model.specs.{Causes.Faults, Reply.Turn}
use Rattle.fwu_words.specs.Order.{Asked}
use Rattle.host_io.specs.{Access.Access, Contents.Directory, Reads.ReadsFile, Reads.ReadsFiles, declared.files.Files.Ghosts}
use Rattle.script_runs.specs.Ways.{HasGoodList}
use Rattle.script_cmd.specs.{Handed.Inputs, Serves.IsUnasked}

-- ---- what a run was given, from its parts, and that no count of failures fell

abbrev pub inputs-of : Option Asked → Option (List ℕ) → Option (List ℕ → Option (List ℕ)) → Option (List ℕ) → Inputs
inputs-of asked list files source = record { asked = asked; list = list; files = files; source = source }

-- no fault count falls
pub record Later (faults_before faults_after : Faults) : Type 0 where
  pub files : faults_before.files ≤ faults_after.files
  pub source : faults_before.source ≤ faults_after.source
  pub sink : faults_before.sink ≤ faults_after.sink

-- ---- which files a command doesn't ask for, from what its parts ask for

module _ {H : Type 0} (g : Ghosts H) {asked : Option Asked} {list : Option (List ℕ)} {told : Option Directory} {left : Option (List ℕ)} {journal : List Turn} where
  -- where no call is made
  pub asks-none : (at_rest : (f : H) (access : Access) → g.spares f f access) (f : H) → ReadsFiles g (IsUnasked (inputs-of asked list told left) journal) f f
  asks-none at_rest f = record { same = refl; unwritten = refl; later = omega arith; spares = λ access other. at_rest f access }

  pub asks-still : (at_rest : (f : H) (access : Access) → g.spares f f access) (f now : H) → now ≡ f → ReadsFiles g (IsUnasked (inputs-of asked list told left) journal) f now
  asks-still at_rest f now is = subst (λ (h : H). ReadsFiles g (IsUnasked (inputs-of asked list told left) journal) f h) (sym is) (asks-none at_rest f)

  -- where the list alone is read
  pub asks-list : (name : List ℕ) (old new : H) → list ≡ Some name → ReadsFile g name old new → ReadsFiles g (IsUnasked (inputs-of asked list told left) journal) old new
  asks-list name old new is read = record { same = read.same; unwritten = read.unwritten; later = read.later; spares = λ access other. read.spares access (other.list name is) }

  -- what is asked for without a list is asked for behind one
  pub asks-behind : (joins : (a b c : H) (access : Access) → g.spares a b access → g.spares b c access → g.spares a c access) (name : List ℕ) (old mid new : H) (mid_told : Option Directory) → list ≡ Some name → HasGoodList list told
      → ReadsFile g name old mid → ReadsFiles g (IsUnasked (inputs-of asked None mid_told left) journal) mid new → ReadsFiles g (IsUnasked (inputs-of asked list told left) journal) old new
  asks-behind joins name old mid new mid_told is good read rest = record {
    same = rest.same ∙ read.same;
    unwritten = rest.unwritten ∙ read.unwritten;
    later = omega (arith, read.later, rest.later);
    spares = λ access other.
        joins old mid new access (read.spares access (other.list name is)) (rest.spares access (record { list = λ n none. absurd cc; wanted = λ banks rows file asks none. other.wanted banks rows file asks good; sent = other.sent }));
  }

  -- by equal words
  pub asks-at : (other : Option Asked) (named : Option (List ℕ)) (old new : H) → asked ≡ other → list ≡ named
      → ReadsFiles g (IsUnasked (inputs-of other named told left) journal) old new → ReadsFiles g (IsUnasked (inputs-of asked list told left) journal) old new
  asks-at other named old new words is reads = record {
    same = reads.same;
    unwritten = reads.unwritten;
    later = reads.later;
    spares = λ access un.
        reads.spares access (record { list = λ name named_is. un.list name (is ∙ named_is); wanted = λ banks rows file asks good. un.wanted banks rows file (words ∙ asks) (subst (λ (l : Option (List ℕ)). HasGoodList l told) (sym is) good); sent = λ none. un.sent (λ seed rounds soaks. none seed rounds (sym words ∙ soaks)) });
  }
