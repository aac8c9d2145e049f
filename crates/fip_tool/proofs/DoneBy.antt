-- What is done for what the words ask for, from what a command did.
use Rattle.std.proofs.Common.{◌≡◌, ◌≢◌, ℕ, List, ◌∷◌, Some, Result, Ok, Err, ap, arith, refl, subst, sym, ◌∙◌, inl, inr, [], Option, None}
use Rattle.std.proofs.lemmas.Result.{IfErr-weaker}
use Rattle.std.specs.Prelude.{IfErr, IfOk, IsTrue}
use Rattle.fip_words.specs.Order.{FipAsked, info_of_source}
use Rattle.host_io.specs.{Access.Access, Contents.Directory, Joined.AsksNoPiece, declared.writes.Writes.Writes}
use Rattle.host_io.specs.Access as way
use Rattle.host_io.specs.declared.files.Files as files
use Rattle.host_io.specs.declared.sink.Sink as sink
use Rattle.fip_tool.specs.{Names.IsUnneeded, Names.IsUnnamedBy, Names.MayRefuse, Wrote.IsTexts, Done.DidIn}
use Rattle.fip_tool.specs.{Done.WroteIn, Done.WroteForIn, Steps.CommandPlan, Steps.Makes, Steps.outcome_by, Tool.outcome_of}
use Rattle.fip_tool.specs.{Lines.made_line, Tool.puts, Tool.asks_files, Wrote.WroteFor, declared.lines.Format.Format}
use Rattle.fip_tool.specs.Done.{DoneWithFiles, DoneWithSource, PutsMade, RefusesAlone, WritesTexts, CommandDone}
use Rattle.fip_making.specs.{Stops.exit_status, Payloads.HasNoPieceOf, Payloads.made_by, Answers.AsTold, Answers.ReadsFilesAlone}
use Rattle.fip_making.specs.{Stops.IsLate, declared.made.Made.Made, declared.stops.Stop.Stop}
use Rattle.fip_making.specs.declared.stops.Stop.TheVariants as stop
use Rattle.fip_tool.proofs.{Did.are-told, Did.made-steps, Did.refused, WritingLemmas.tears-since}
use Rattle.fip_tool.proofs.Faults.{faults-as, faults-of, still, faults-none}
use Rattle.fip_tool.proofs.Refusing.{late-alone, memory-may, usage-unasked}
use Rattle.fip_tool.proofs.WroteLemmas.{texts-behind, wrote-none}
use Rattle.fip_making.proofs.{Refusing.if-err-all, Refusing.err-same, Tables.rose-from, SourceLemmas.nothing-read}
use Rattle.std.proofs.KnownBytes.{Appends-nil, Consumes-nil}
use Rattle.std.proofs.lemmas.Bool.{false≢true}
use Rattle.host_io.proofs.Once.{once-none}
use Rattle.host_io.specs.declared.source.Source as source

-- ---- what is done for an order that asks for files, from what its parts did

module _ {H O : Type 0} {h : files.Ghosts H} {o : sink.Ghosts O} {one : FipAsked} where
  -- a stop before anything was done
  pub done-unread : {X : Type 0} {IsOther : Access → Type 0} {IsOwn : Stop → Type 0} {before after : H} {old : O} (s : Stop)
      → ReadsFilesAlone {X = X} h IsOther IsOwn before after (Err s) → ((access : Access) → IsUnnamedBy (Some one) access → IsOther access)
      → RefusesAlone h (Some one) before after (exit_status s)
      → ((told : Directory) → h.contents before ≡ Some told → DidIn h o (outcome_of (Some one) told) told before after old old (Err s))
      → MayRefuse (Some one) s → DoneWithFiles h o ⊥ (Some one) (Err s) before after old old
  done-unread {before = before} {old = old} s reads unnamed alone did may = record {
    told = λ told e other. did told e;
    wrote = subst (λ (w : Writes). WroteFor (Some one) (o.taken old) (o.taken old) (h.writes before).done w.done (Err s)) (sym reads.files.unwritten) (wrote-none (Some one) (o.taken old) (h.writes before).done s (λ e. reads.only.sink (err-same e)));
    file_count = faults-as (faults-of reads.only);
    cause = λ e none. let same : s ≡ stop.FileFault = cc in inl (reads.only.cause (err-same same) none);
    refusals = may;
    spares = λ access other. reads.files.spares access (unnamed access other);
    alone = alone;
    later = omega arith;
    sink_count = still _ s (λ e. reads.only.sink (err-same e));
  }

  -- files were written, each with its text
  pub done-texts : {result : Result (Unit {0}) Stop} {before after : H} {old new : O} → WritesTexts h o (IsTexts (Some one)) result before after old new
      → (WroteIn h o (IsTexts (Some one)) before after old new result → WroteForIn h o (Some one) before after old new result) → ((s : Stop) → IsLate s → MayRefuse (Some one) s)
      → ((told : Directory) → h.contents before ≡ Some told → DidIn h o (outcome_of (Some one) told) told before after old new result)
      → ((access : Access) → IsUnnamedBy (Some one) access → h.spares before after access) → DoneWithFiles h o ⊥ (Some one) result before after old new
  done-texts {result = result} {before = before} {after = after} put writes late did spares = record {
    told = λ told e other. did told e;
    wrote = writes put.wrote;
    file_count = put.file_count;
    cause = λ e none. inl (put.cause e);
    refusals = IfErr-weaker result IsLate (MayRefuse (Some one)) late put.late;
    spares = spares;
    alone = late-alone result (λ s. (access : Access) → IsUnneeded (Some one) (exit_status s) access → h.spares before after access) put.late;
    later = put.later_sink;
    sink_count = put.sink_count;
  }

  -- what was made was put into a file, and its line was printed
  pub done-made : {IsOther : Access → Type 0} {IsOwn : Stop → Type 0} {result : Result (Unit {0}) Stop} {before mid after : H} {old new : O} (made : Result Made Stop) (format : Format) (out : List ℕ) (value : Directory → Result (ℕ × List ℕ) Stop)
      → ((told : Directory) → outcome_of (Some one) told ≡ outcome_by (puts (made_line format) out) (value told)) → IfOk made (λ m. IsTexts (Some one) (made_line format m.count m.frame.size ∷ []))
      → (WroteIn h o (IsTexts (Some one)) before after old new result → WroteForIn h o (Some one) before after old new result) → ((s : Stop) → IsLate s → MayRefuse (Some one) s)
      → ReadsFilesAlone h IsOther IsOwn before mid made → ((s : Stop) → IsOwn s → MayRefuse (Some one) s) → AsTold h made_by value before mid made
      → ((told : Directory) → h.contents mid ≡ Some told → IfOk made (λ m. DidIn h o (Makes (puts (made_line format) out (made_by told m))) told mid after old new result))
      → PutsMade h o format made result mid after old new → IfOk made (HasNoPieceOf IsOther)
      → ((access : Access) → access ≢ way.Makes out → IfOk made (λ m. AsksNoPiece m.pieces.items access) → h.spares mid after access)
      → ((access : Access) → h.spares before mid access → h.spares mid after access → h.spares before after access)
      → ((access : Access) → IsUnnamedBy (Some one) access → IsOther access × (access ≢ way.Makes out)) → IfErr made (λ s. RefusesAlone h (Some one) before mid (exit_status s))
      → DoneWithFiles h o ⊥ (Some one) result before after old new
  done-made {result = result} {before = before} {after = after} {old = old} {new = new} (Ok m) format out value outcome texts writes late reads turns gives did put pieces spares joins named alone =
      done-texts (texts-behind (λ all. all ≡ made_line format m.count m.frame.size ∷ []) (IsTexts (Some one)) (λ all t. subst (IsTexts (Some one)) (sym t) texts) reads.only.quiet reads.files.unwritten put) writes late
      (λ told e.
      subst (λ (plan : CommandPlan). DidIn h o plan told before after old new result) (sym (outcome told))
      (made-steps (puts (made_line format) out) (value told) (made_by told m) told _ _ _ _ _ _ _ _ result (gives told e) (λ r. rose-from _ _ _ reads.files.later r)
      (λ r. tears-since (h.writes after) reads.files.unwritten r) (did told (reads.files.same ∙ e))))
      (λ access other. let known = named access other in joins access (reads.files.spares access known.0) (spares access known.1 (pieces access known.0)))
  done-made {before = before} {mid = mid} {old = old} (Err s) format out value outcome texts writes late reads turns gives did put pieces spares joins named alone =
      rw (put.0, put.1, put.2) (done-unread s reads (λ access other. (named access other).0) alone
      (λ told e.
      subst (λ (plan : CommandPlan). DidIn h o plan told before mid old old (Err s)) (sym (outcome told))
      (refused (puts (made_line format) out) (made_by told) (value told) told _ _ _ _ _ _ s (gives told e) (reads.files.same ∙ e) refl))
      (turns s reads.refusals))

-- ---- what is done for what the words ask for, from what a command did

module _ {H I O : Type 0} {h : files.Ghosts H} {i : source.Ghosts I} {o : sink.Ghosts O} where
  -- a command that asks for files does not touch the source
  pub done-with-files : ((s : I) → i.reads s s []) → {asked : Option FipAsked} {result : Result (Unit {0}) Stop} {before after : H} {kept : I} {old new : O} (one : FipAsked) → asked ≡ Some one → IsTrue (asks_files (Some one))
      → DoneWithFiles h o ⊥ (Some one) result before after old new → CommandDone h i o asked result before after kept kept old new
  done-with-files unread {result = result} {before = before} {after = after} {kept = kept} {old = old} {new = new} one is asks done =
      subst (λ (a : Option FipAsked). CommandDone h i o a result before after kept kept old new) (sym is) (record {
        done = record {
          told = done.told;
          wrote = done.wrote;
          file_count = done.file_count;
          cause = λ e untold. elim (done.cause e untold) [
            | inl rose ↦ inl rose
            | inr none ↦ absurd none
          ];
          refusals = done.refusals;
          spares = done.spares;
          alone = done.alone;
          later = done.later;
          sink_count = done.sink_count;
        };
        source = λ same. absurd (false≢true (sym (ap asks_files same) ∙ asks));
        words = λ none. absurd cc;
        usage = λ e. absurd (usage-unasked one (let may : IfErr result (MayRefuse (Some one)) = done.refusals in rw e at may));
        source_stays = λ other. refl;
        once = once-none i unread kept;
        source_count = λ same. absurd (false≢true (sym (ap asks_files same) ∙ asks));
        files_stay = λ stays. absurd (false≢true (sym stays ∙ asks));
      })

  -- a listing of the source does not touch the files
  pub done-with-source : {asked : Option FipAsked} {result : Result (Unit {0}) Stop} {kept : H} {first last : I} {old new : O} → asked ≡ Some info_of_source → ((access : Access) → h.spares kept kept access)
      → DoneWithSource i o result first last old new → CommandDone h i o asked result kept kept first last old new
  done-with-source {result = result} {kept = kept} {first = first} {last = last} {old = old} {new = new} is rest done =
      subst (λ (a : Option FipAsked). CommandDone h i o a result kept kept first last old new) (sym is) (record {
        done = record {
          told = λ told e other. absurd (other refl);
          wrote = done.wrote (h.writes kept).done;
          file_count = faults-none refl;
          cause = λ e untold. inr (done.cause e);
          refusals = done.refusals;
          spares = λ access other. rest access;
          alone = if-err-all result (λ s. RefusesAlone h (Some info_of_source) kept kept (exit_status s)) (λ s refuses access other. rest access);
          later = done.later;
          sink_count = done.sink_count;
        };
        source = λ same. done.listed (h.contents kept);
        words = λ none. absurd cc;
        usage = λ e. absurd (let may : IfErr result (MayRefuse (Some info_of_source)) = done.refusals in rw e at may);
        source_stays = λ other. absurd (other refl);
        once = done.once;
        source_count = λ same. done.source_count;
        files_stay = λ stays. refl;
      })

  module _ (unread : (s : I) → i.reads s s []) {asked : Option FipAsked} {kept : H} {held : I} {old : O} where
    pub done-usage : asked ≡ None → ((access : Access) → h.spares kept kept access) → CommandDone h i o asked (Err stop.Usage) kept kept held held old old
    done-usage none rest = subst (λ (a : Option FipAsked). CommandDone h i o a (Err stop.Usage) kept kept held held old old) (sym none) (record {
      done = record {
        told = λ told e other. (refl, are-told told _ e, Appends-nil _);
        wrote = wrote-none None (o.taken old) (h.writes kept).done stop.Usage (λ e. cc);
        file_count = faults-none refl;
        cause = λ e untold. absurd cc;
        refusals = tt;
        spares = λ access other. rest access;
        alone = λ refuses access other. rest access;
        later = omega arith;
        sink_count = refl;
      };
      source = λ same. absurd cc;
      words = λ unasked. inl refl;
      usage = λ e. refl;
      source_stays = λ other. refl;
      once = once-none i unread held;
      source_count = λ same. absurd cc;
      files_stay = λ stays. refl;
    })

    -- want of memory before anything was done
    pub done-starved : ((access : Access) → h.spares kept kept access) → CommandDone h i o asked (Err stop.NoMemory) kept kept held held old old
    done-starved rest = record {
      done = record {
        told = λ told e other. (0, are-told told _ e, Appends-nil _);
        wrote = wrote-none asked (o.taken old) (h.writes kept).done stop.NoMemory (λ e. cc);
        file_count = faults-none refl;
        cause = λ e untold. absurd cc;
        refusals = memory-may asked;
        spares = λ access other. rest access;
        alone = λ refuses access other. rest access;
        later = omega arith;
        sink_count = refl;
      };
      source = λ same. ([], nothing-read, refl, Consumes-nil _, (0, λ name. refl, Appends-nil _));
      words = λ none. inr refl;
      usage = λ e. absurd cc;
      source_stays = λ other. refl;
      once = once-none i unread held;
      source_count = λ same. refl;
      files_stay = λ stays. refl;
    }
