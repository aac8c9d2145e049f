-- What is done for an entry that is unpacked, from what its parts did.
use Rattle.std.proofs.Common.{◌≡◌, ◌≢◌, ◌∷◌, ◌++◌, [], ℕ, List, Option, Some, None, Result, Ok, Err, ap, arith, false, refl, subst, ◌∙◌, append-nil}
use Rattle.std.specs.Prelude.{OnOk, codes, decimal, take, drop, unwrap_or}
use Rattle.base_core.specs.{Counts.Rose, Guid.guid_text}
use Rattle.fip_words.specs.Values.{is_unpacked}
use Rattle.fwu_formats.specs.Package.{Entry, payload}
use Rattle.host_io.specs.{Access.Access, Access.Makes, Contents.Directory}
use Rattle.host_io.specs.Access as way
use Rattle.host_io.specs.declared.files.Files as files
use Rattle.host_io.specs.declared.sink.Sink as sink
use Rattle.fip_tool.specs.{Lines.unpacked_line, Lines.unpacked_name, Done.WritesTexts, Done.Unpacked, Done.DidIn, Steps.Makes}
use Rattle.fip_tool.specs.{Steps.Prints, Steps.MayTear, Steps.NoneUnwritten, Tool.unpack_steps}
use Rattle.fip_tool.specs.Steps as step
use Rattle.fip_making.specs.declared.stops.Stop.{Stop}
use Rattle.fip_making.specs.declared.stops.Stop.TheVariants as stop
use Rattle.fip_tool.proofs.{Did.refused, Faults.faults-none, UnpackLemmas.entry-did, UnpackLemmas.line-is}
use Rattle.fip_tool.proofs.WroteLemmas.{no-texts, texts-behind}

-- the piece that a payload is, behind no frame, by files that tell the package's bytes
pub piece-is : (told : Directory) (from bytes : List ℕ) (e : Entry) (at count : ℕ) → told from ≡ Some bytes → at ≡ e.offset → count ≡ e.size
    → take 0 [] ++ (take count (drop at (unwrap_or (told from) [])) ++ drop 0 []) ≡ payload bytes e
piece-is told from bytes e at count is place size =
    append-nil (take count (drop at (unwrap_or (told from) [])))
    ∙ ap (λ (o : Option (List ℕ)). take count (drop at (unwrap_or o []))) is
    ∙ ap (λ (n : ℕ). take count (drop n bytes)) place ∙ ap (λ (n : ℕ). take n (drop e.offset bytes)) size

on-ok : {A E : Type 0} (r : Result A E) (P : Type 0) → P → OnOk r P
on-ok (Ok x) P p = p
on-ok (Err e) P p = tt

module _ {H O : Type 0} {h : files.Ghosts H} {o : sink.Ghosts O} where
  module _ {from prefix : List ℕ} {entry : Entry} {kept : H} {old : O} where
    -- no memory for the name or the line
    pub unnamed : ((access : Access) → h.spares kept kept access) → Unpacked h o from prefix entry (Err stop.NoMemory) kept kept old old
    unnamed spares = record {
      spares = λ access asked made. spares access;
      told = λ told bytes is stored.
          refused (λ (out : List ℕ). unpack_steps prefix bytes (entry ∷ [])) (λ (out : List ℕ). out) (Ok (payload bytes entry)) told _ _ _
          (Rose (h.faults kept) (h.faults kept)) (MayTear (h.writes kept) (h.writes kept)) (Rose (o.faults old) (o.faults old)) stop.NoMemory tt is refl;
      other = tt;
      silent = λ none. none;
      unspoiled = tt;
      texts = no-texts {X = Unit {0}} stop.NoMemory (faults-none refl) refl (λ e. absurd cc) tt (λ e. cc) (omega arith);
    }

  -- the file is made, and its line is printed
  pub made : {from prefix : List ℕ} {entry : Entry} {result : Result (Unit {0}) Stop} {before after : H} {old new : O}
      (guid name shown line : List ℕ) (out : Directory → List ℕ) → unpacked_name prefix guid ≡ unpacked_name prefix entry.guid
      → name ≡ unpacked_name prefix guid → shown ≡ unpacked_name prefix guid
      → ((told : Directory) (bytes : List ℕ) → told from ≡ Some bytes → out told ≡ payload bytes entry)
      → line ≡ guid_text entry.guid ++ codes " size=" ++ decimal entry.size ++ codes " file=" ++ shown ++ codes "\n"
      → ((from : List ℕ) → is_unpacked prefix from ≡ false → from ≢ unpacked_name prefix guid)
      → ((told : Directory) → h.contents before ≡ Some told
      → DidIn h o (Makes (step.Writes name (out told) ∷ Prints line ∷ [])) told before after old new result)
      → (h.contents before ≡ None → h.contents after ≡ None)
      → OnOk result (NoneUnwritten (h.writes before) (h.writes after))
      → WritesTexts h o (λ texts. texts ≡ line ∷ []) result before after old new
      → ((access : Access) → access ≢ way.Asks from → access ≢ Makes name → h.spares before after access)
      → Unpacked h o from prefix entry result before after old new
  made {from = from} {prefix = prefix} {entry = entry} {result = result} guid name shown line out one named seen whole lined differs did silent unspoiled put spares =
      let shown-is : shown ≡ unpacked_name prefix entry.guid = seen ∙ one in
      let line-of : line ≡ unpacked_line prefix entry = line-is prefix entry shown line shown-is lined in record {
        told = λ told bytes is stored.
            entry-did prefix bytes entry name shown (out told) line told _ _ _ _ _ _ _ _ result (named ∙ one) shown-is (whole told bytes stored) lined (λ r. r) (λ r. r) (did told is);
        other = on-ok result _ (λ apart. subst (λ (l : List ℕ). from ≢ l) one (differs from apart));
        silent = silent;
        unspoiled = unspoiled;
        texts = texts-behind (λ texts. texts ≡ line ∷ []) (λ texts. texts ≡ unpacked_line prefix entry ∷ []) (λ texts t. t ∙ ap (λ (l : List ℕ). l ∷ []) line-of) refl refl put;
        spares = λ access asked other. spares access asked (λ is. other (is ∙ ap way.Makes (named ∙ one)));
      }
