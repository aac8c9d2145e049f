-- Settling a plan leaves the machine's session and state.
use Rattle.std.proofs.Common.{◌≡◌, ◌≢◌, inl, inr, ℕ, ◌+◌, ◌-◌, ◌<◌, ◌≤◌, Bool, true, false, cond, List, [], ◌++◌, length, get_or, set, map, replicate, Option, Some, None, refl, sym, ap, ap₂, ◌∙◌, subst, arith, length-set, get_or-set_same, get_or-set_other, eq-eqb, ne_eqb}
use Rattle.std.proofs.lemmas.Bool.{cases_eq, cases_lt}
use Rattle.std.proofs.lemmas.List.{map-set, get_or_past}
use Rattle.fwu_model.specs.declared.kinds.Op.TheVariants as op
use Rattle.fwu_formats.specs.{Layout.ImageRow, Metadata.Meta, Metadata.MetaRead}
use Rattle.fwu_model.specs.{Sound.Setting, Session.Staged, MoveMetas.meta_in, MoveMetas.meta_after}
use Rattle.fwu_model.specs.State.{State, bank, update_bank, Free, Switch, Accept, Back, after_move}
use Rattle.fwu_model.specs.Answer.{content, appended, with_appended, with_committed, staged_bytes, committed_bit, staged_bits}
use Rattle.fwu_model.specs.Session as machine
use Rattle.agent_kept.specs.{declared.parts.Part.Part, declared.parts.Handle.Handle, declared.kinds.Plan.Plan}
use Rattle.agent_kept.specs.Kept.{Kept, IsKept, HasTotals, part_at, handle_kept, part_meant, parts_meant, staging_meant, handle_meant, handles_meant, session_meant, with_handle, is_part_open, IsNewPart, GrowsPart, CommitsTo, Restarts, OpensPart, AppendsPart, CommitsPart}
use Rattle.agent_kept.specs.Plans.{Speaks, SpeaksWhole, planned, with_open, bits_staged, package_staged}
use Rattle.agent_kept.specs.declared.parts.Part.TheVariants as part
use Rattle.agent_kept.specs.declared.parts.Handle.TheVariants as handle
use Rattle.agent_kept.specs.declared.kinds.Plan.TheVariants as plan
use Rattle.agent_kept.specs.declared.kinds.Decision.TheVariants as decision
use Rattle.fwu_formats.proofs.Same.{map-same}
use Rattle.agent_kept.proofs.{Installable.map-twice, Sounds.frees, Sounds.restarts-staging, Sounds.restarts-idle}
use Rattle.agent_kept.proofs.Meant.{part-meant, parts-changed, staging-on, handle-meant}
use Rattle.agent_kept.proofs.After.{kept-opened, kept-committed, kept-appended, kept-nothing}
use Rattle.std.specs.List.{range_with_len}
use Rattle.agent_state.specs.Settles.{IsPlanOf, HasTotal, Changes, bit_kept, bits_kept, meta_planned, with_bytes, SettlesBy, SettlesIn}
use Rattle.agent_state.proofs.Machine.{next-is}
use Rattle.agent_state.proofs.Moved.{meta-freed, meta-switched, meta-accepted, content-length, held-accepted}

-- all of what the plan says is settled: a partial begin is settled as a begin
abbrev pub IsWhole : Plan → Type 0
IsWhole (plan.BeginPartial store named) = ⊥
IsWhole other = Unit {0}

-- ---- the same state

-- what is spoken of after a change of what is kept, where the state and the metadata stay
spoken-still : (E : Setting) (s : State) (passes : List ℕ → Bool) (m : MetaRead) (counter boot : ℕ) (k new : Kept) (staged after_it : ℕ → List ℕ) → SpeaksWhole E s passes m counter k boot staged
    → new.rows ≡ k.rows → IsKept new after_it → HasTotals E s boot new → SpeaksWhole E s passes m counter new boot after_it
spoken-still E s passes m counter boot k new staged after_it sp rows is totals =
    let old = sp.speaks in
    record {
      speaks = record {
        rows = rows ∙ old.rows;
        banks = old.banks;
        verifier = old.verifier;
        meta = old.meta;
        counter_is = old.counter_is;
        kept = is;
      };
      totals = totals;
    }

-- what is kept of the images is the same with another handle
kept-handle : (k : Kept) (number : ℕ) (h : Handle) (staged : ℕ → List ℕ) → IsKept k staged → IsKept (with_handle k number h) staged
kept-handle k number h staged is = record { opened = is.opened; committed = is.committed; front = is.front }

-- each reader has its total, and is within it
abbrev ReadsWell : Setting → State → ℕ → Handle → Type 0
ReadsWell E s boot h = (image : Option ℕ) (at total : ℕ) → h ≡ handle.Reads image at total → (total ≡ length (content E s boot image)) × (at ≤ total)

totals-of : (E : Setting) (s : State) (boot : ℕ) (k : Kept) → ((place : ℕ) → ReadsWell E s boot (handle_kept k place)) → HasTotals E s boot k
totals-of E s boot k each = record { total = λ place image at total e. (each place image at total e).0; within = λ place image at total e. (each place image at total e).1 }

well-of : (E : Setting) (s : State) (boot : ℕ) (k : Kept) → HasTotals E s boot k → (place : ℕ) → ReadsWell E s boot (handle_kept k place)
well-of E s boot k totals place image at total e = (totals.total place image at total e, totals.within place image at total e)

writer-reads : (E : Setting) (s : State) (boot image : ℕ) → ReadsWell E s boot (handle.Writes image)
writer-reads E s boot image target at total e = absurd cc

free-reads : (E : Setting) (s : State) (boot : ℕ) → ReadsWell E s boot handle.Free
free-reads E s boot target at total e = absurd cc

-- one handle changes
totals-set : (E : Setting) (s : State) (boot : ℕ) (k new : Kept) (place : ℕ) (h : Handle) → new.handles ≡ set k.handles place h → HasTotals E s boot k → ReadsWell E s boot h → HasTotals E s boot new
totals-set E s boot k new place h is totals reads = totals-of E s boot new (λ other. subst (ReadsWell E s boot) (sym (ap (λ (hs : List Handle). get_or hs other handle.Free) is)) (at other))
  where
    here : ReadsWell E s boot (get_or (set k.handles place h) place handle.Free)
    here = elim (cases_lt place (length k.handles)) [
      | inl below ↦ subst (ReadsWell E s boot) (sym (get_or-set_same k.handles place h handle.Free below)) reads
      | inr past ↦ subst (ReadsWell E s boot) (sym (get_or_past (set k.handles place h) place handle.Free (omega (arith, past, length-set k.handles place h)))) (free-reads E s boot)
    ]

    at : (other : ℕ) → ReadsWell E s boot (get_or (set k.handles place h) other handle.Free)
    at other = elim (cases_eq other place) [
      | inl same ↦ subst (λ (i : ℕ). ReadsWell E s boot (get_or (set k.handles place h) i handle.Free)) (sym same) here
      | inr ne ↦ subst (ReadsWell E s boot) (sym (get_or-set_other k.handles place other h handle.Free ne)) (well-of E s boot k totals other)
    ]

totals-same : (E : Setting) (s : State) (boot : ℕ) (k new : Kept) → new.handles ≡ k.handles → HasTotals E s boot k → HasTotals E s boot new
totals-same E s boot k new is totals = totals-of E s boot new (λ place. subst (λ (hs : List Handle). ReadsWell E s boot (get_or hs place handle.Free)) (sym is) (well-of E s boot k totals place))

reader-reads : (E : Setting) (s : State) (boot : ℕ) (image : Option ℕ) (at total : ℕ) → total ≡ length (content E s boot image) → at ≤ total → ReadsWell E s boot (handle.Reads image at total)
reader-reads E s boot image at total total-is within target n m e =
    let i : image ≡ target = cc in
    let a : at ≡ n = cc in
    let t : total ≡ m = cc in
    (sym t ∙ total-is ∙ ap (λ (o : Option ℕ). length (content E s boot o)) i, subst (λ (x : ℕ). n ≤ x) t (subst (λ (x : ℕ). x ≤ total) a within))

-- no handle is open
totals-closed : (E : Setting) (s : State) (boot : ℕ) (k : Kept) → k.handles ≡ replicate 32 handle.Free → HasTotals E s boot k
totals-closed E s boot k closed = totals-of E s boot k (λ place. subst (ReadsWell E s boot) (sym (ap (λ (hs : List Handle). get_or hs place handle.Free) closed ∙ frees 32 place)) (free-reads E s boot))

-- another state in which each bank holds what it held
totals-held : (E : Setting) (s t : State) (boot : ℕ) (k : Kept) → (bank t boot).held ≡ (bank s boot).held → HasTotals E s boot k → HasTotals E t boot k
totals-held E s t boot k same totals = record {
  total = λ place image at total e. totals.total place image at total e ∙ sym (content-length E s t boot image same);
  within = totals.within;
}

-- ---- the plans

pub with-here : (staged : ℕ → List ℕ) (image : ℕ) (bytes : List ℕ) → with_bytes staged image bytes image ≡ bytes
with-here staged image bytes = ap (λ (b : Bool). cond b bytes (staged image)) (eq-eqb image image refl)

pub with-there : (staged : ℕ → List ℕ) (image : ℕ) (bytes : List ℕ) (i : ℕ) → i ≢ image → with_bytes staged image bytes i ≡ staged i
with-there staged image bytes i ne = ap (λ (b : Bool). cond b bytes (staged i)) (ne_eqb i image ne)

new-meant : (p : Part) (bytes : List ℕ) → IsNewPart p → part_meant p bytes ≡ machine.Open bytes
new-meant (part.Open size hasher) bytes it = refl
new-meant other bytes it = absurd it

grown-meant : (p q : Part) (bytes x y : List ℕ) → GrowsPart p q bytes → y ≡ x ++ bytes → part_meant q y ≡ appended (part_meant p x) bytes
grown-meant (part.Open size hasher) (part.Open n next) bytes x y g e = ap machine.Open e
grown-meant p q bytes x y g e = absurd g

ended-meant : (p q : Part) (bit : Bool) (x : List ℕ) → is_part_open p ≡ true → CommitsTo p q bit → part_meant q x ≡ machine.Committed (staged_bytes (part_meant p x)) bit
ended-meant part.Nothing q bit x opened c = absurd cc
ended-meant (part.Committed size digest b) q bit x opened c = absurd cc
ended-meant (part.Open size hasher) part.Nothing bit x opened c = absurd c
ended-meant (part.Open size hasher) (part.Open n other) bit x opened c = absurd c
ended-meant (part.Open size hasher) (part.Committed n digest b) bit x opened c = ap (machine.Committed x) c.1

bit-meant : (p : Part) (bytes : List ℕ) → bit_kept p ≡ committed_bit (part_meant p bytes)
bit-meant (part.Committed size digest bit) bytes = refl
bit-meant other bytes = refl

pub bits-meant : (k : Kept) (staged : ℕ → List ℕ) → bits_kept k ≡ staged_bits (parts_meant k staged)
bits-meant k staged =
    map-twice bit_kept (part_at k) (range_with_len 0 (length k.rows))
    ∙ map-same (λ (i : ℕ). bit_kept (part_at k i)) (λ (i : ℕ). committed_bit (part_meant (part_at k i) (staged i))) (range_with_len 0 (length k.rows)) (λ i. bit-meant (part_at k i) (staged i))
    ∙ sym (map-twice committed_bit (λ (i : ℕ). part_meant (part_at k i) (staged i)) (range_with_len 0 (length k.rows)))

module _ (E : Setting) (s : State) (passes : List ℕ → Bool) (m : MetaRead) (counter boot : ℕ) (k : Kept) (staged : ℕ → List ℕ) (bytes : List ℕ) (sp : SpeaksWhole E s passes m counter k boot staged) (few : length k.rows ≤ 16) where
  old : Speaks E s passes m counter k boot staged
  old = sp.speaks

  abbrev SI : Plan → MetaRead → Kept → Type 0
  SI p new_meta new = SettlesIn E s passes counter boot staged bytes p k m new_meta new

  -- what is spoken of after a restart
  spoken-restarted : (staging : Bool) (t : State) (new_meta : MetaRead) (new : Kept) → Restarts staging k new → new_meta.meta ≡ meta_in t → length t.banks ≡ length s.banks → t.counter ≡ s.counter → SpeaksWhole E t passes new_meta counter new boot staged
  spoken-restarted staging t new_meta new restarts meta banks same = record {
    speaks = record {
      rows = restarts.rows ∙ old.rows;
      banks = banks ∙ old.banks;
      verifier = old.verifier;
      meta = meta;
      counter_is = old.counter_is ∙ sym same;
      kept = kept-nothing new staged restarts.nothing;
    };
    totals = totals-closed E t boot new restarts.closed;
  }

  next-staging : (new : Kept) → Restarts true k new → session_meant new boot staged ≡ machine.On boot (machine.nothing_staged E) machine.no_handles
  next-staging new restarts =
      restarts-staging new boot staged restarts.nothing restarts.staging_is restarts.closed
      ∙ ap (λ (rs : List ImageRow). machine.On boot (Some (replicate (length rs) machine.Nothing)) machine.no_handles) (restarts.rows ∙ old.rows)

  begins : (store : Bool) (new_meta : MetaRead) (new : Kept) → Restarts true k new → new_meta ≡ record m { meta = meta_planned k m.meta (plan.Begin store) } → SI (plan.Begin store) new_meta new
  unfolding planned
  begins true new_meta new restarts is = record {
    spoken =
        spoken-restarted true (after_move s (Free (update_bank s))) new_meta new restarts
        (ap (λ (r : MetaRead). r.meta) is ∙ ap₂ (λ (x : Meta) (b : ℕ). meta_after x (Free b)) old.meta (next-is s m old.meta) ∙ meta-freed s (update_bank s))
        (length-set s.banks (update_bank s) _) refl;
    next = next-staging new restarts;
  }
  begins false new_meta new restarts is = record {
    spoken = spoken-restarted true s new_meta new restarts (ap (λ (r : MetaRead). r.meta) is ∙ old.meta) refl refl;
    next = next-staging new restarts;
  }

  -- another handle, and the rest as it was
  module _ (number : ℕ) (h : Handle) (reads : ReadsWell E s boot h) where
    spoken-handle : SpeaksWhole E s passes m counter (with_handle k number h) boot staged
    spoken-handle = spoken-still E s passes m counter boot k (with_handle k number h) staged staged sp refl (kept-handle k number h staged old.kept) (totals-set E s boot k (with_handle k number h) (number - 1) h refl sp.totals reads)

    next-handle : session_meant (with_handle k number h) boot staged ≡ machine.On boot (staging_meant k staged) (set (handles_meant k) (number - 1) (handle_meant h))
    next-handle = ap (machine.On boot (staging_meant k staged)) (handle-meant k number h)

  reads-open : (number : ℕ) (image : Option ℕ) (total : ℕ) → total ≡ length (content E s boot image) → SI (plan.Open number image op.Read total) m (with_handle k number (handle.Reads image 0 total))
  unfolding planned
  reads-open number None total is =
      let reads = reader-reads E s boot None 0 total is (omega arith) in
      record { spoken = spoken-handle number (handle.Reads None 0 total) reads; next = next-handle number (handle.Reads None 0 total) reads }
  reads-open number (Some image) total is =
      let reads = reader-reads E s boot (Some image) 0 total is (omega arith) in
      record { spoken = spoken-handle number (handle.Reads (Some image) 0 total) reads; next = next-handle number (handle.Reads (Some image) 0 total) reads }

  reads-on : (number : ℕ) (image : Option ℕ) (at n total : ℕ) → handle_kept k (number - 1) ≡ handle.Reads image at total → at + n ≤ total → SI (plan.Read number image at n total) m (with_handle k number (handle.Reads image (at + n) total))
  unfolding planned
  reads-on number image at n total was within =
      let reads = reader-reads E s boot image (at + n) total (sp.totals.total (number - 1) image at total was) within in
      record { spoken = spoken-handle number (handle.Reads image (at + n) total) reads; next = next-handle number (handle.Reads image (at + n) total) reads }

  closes : (number : ℕ) (bit : Bool) → SI (plan.Commit number None bit) m (with_handle k number handle.Free)
  unfolding planned
  closes number bit = record { spoken = spoken-handle number handle.Free (free-reads E s boot); next = next-handle number handle.Free (free-reads E s boot) }

  -- one image changes
  opens : (number image total : ℕ) (new : Kept) → image < length k.rows → k.staging ≡ true → OpensPart k image (number - 1) new → SI (plan.Open number (Some image) op.Write total) m new
  unfolding planned
  opens number image total new lt on opened =
      let after_it = with_bytes staged image [] in
      record {
        spoken =
            spoken-still E s passes m counter boot k new staged after_it sp opened.rows
            (kept-opened k new image (number - 1) staged after_it old.kept opened (with-here staged image []) (with-there staged image []))
            (totals-set E s boot k new (number - 1) (handle.Writes image) opened.handles sp.totals (writer-reads E s boot image));
        next =
            ap₂ (machine.On boot)
            (staging-on new after_it (opened.staging ∙ on)
            ∙ ap Some (parts-changed k new image (machine.Open []) staged after_it opened.rows lt
            (new-meant (part_at new image) (after_it image) opened.part ∙ ap machine.Open (with-here staged image []))
            (λ i ne. ap₂ part_meant (opened.others i ne) (with-there staged image [] i ne)))
            ∙ sym (ap (λ (o : Option (List Staged)). with_open o image) (staging-on k staged on)))
            (ap (map handle_meant) opened.handles ∙ map-set handle_meant k.handles (number - 1) (handle.Writes image));
      }

  writes : (number image at n : ℕ) (new : Kept) → image < length k.rows → k.staging ≡ true → AppendsPart k image bytes new → SI (plan.Write number image at n) m new
  unfolding planned
  writes number image at n new lt on appends =
      let after_it = with_bytes staged image (staged image ++ bytes) in
      record {
        spoken =
            spoken-still E s passes m counter boot k new staged after_it sp appends.rest.rows
            (kept-appended k new image bytes staged after_it old.kept few lt appends (with-here staged image (staged image ++ bytes)) (with-there staged image (staged image ++ bytes)))
            (totals-same E s boot k new appends.rest.handles sp.totals);
        next =
            ap₂ (machine.On boot)
            (staging-on new after_it (appends.rest.staging ∙ on)
            ∙ ap Some (parts-changed k new image (appended (get_or (parts_meant k staged) image machine.Nothing) bytes) staged after_it appends.rest.rows lt
            (grown-meant (part_at k image) (part_at new image) bytes (staged image) (after_it image) appends.part (with-here staged image (staged image ++ bytes)) ∙ ap (λ (p : Staged). appended p bytes) (sym (part-meant k staged image lt)))
            (λ i ne. ap₂ part_meant (appends.others i ne) (with-there staged image (staged image ++ bytes) i ne)))
            ∙ sym (ap (λ (o : Option (List Staged)). with_appended o image bytes) (staging-on k staged on)))
            (ap (map handle_meant) appends.rest.handles);
      }

  commits : (number image : ℕ) (bit : Bool) (new : Kept) → image < length k.rows → k.staging ≡ true → is_part_open (part_at k image) ≡ true → CommitsPart k image (number - 1) bit new → SI (plan.Commit number (Some image) bit) m new
  unfolding planned
  commits number image bit new lt on opened ends = record {
    spoken =
        spoken-still E s passes m counter boot k new staged staged sp ends.rows (kept-committed k new image (number - 1) bit staged old.kept lt ends)
        (totals-set E s boot k new (number - 1) handle.Free ends.handles sp.totals (free-reads E s boot));
    next =
        ap₂ (machine.On boot)
        (staging-on new staged (ends.staging ∙ on)
        ∙ ap Some (parts-changed k new image (machine.Committed (staged_bytes (get_or (parts_meant k staged) image machine.Nothing)) bit) staged staged ends.rows lt
        (ended-meant (part_at k image) (part_at new image) bit (staged image) opened ends.part ∙ ap (λ (p : Staged). machine.Committed (staged_bytes p) bit) (sym (part-meant k staged image lt)))
        (λ i ne. ap (λ (p : Part). part_meant p (staged i)) (ends.others i ne)))
        ∙ sym (ap (λ (o : Option (List Staged)). with_committed o image bit) (staging-on k staged on)))
        (ap (map handle_meant) ends.handles ∙ map-set handle_meant k.handles (number - 1) handle.Free);
  }

  -- the staging is over
  ends-staging : (new_meta : MetaRead) (new : Kept) → k.staging ≡ true → Restarts false k new → new_meta ≡ record m { meta = meta_planned k m.meta plan.End } → SI plan.End new_meta new
  unfolding planned
  ends-staging new_meta new on restarts is =
      let p = package_staged (staging_meant k staged) in
      let bits = bits_staged (staging_meant k staged) in
      record {
        spoken =
            spoken-restarted false (after_move s (Switch (update_bank s) p bits)) new_meta new restarts
            (ap (λ (r : MetaRead). r.meta) is
            ∙ ap₂ (λ (x : Meta) (b : ℕ). meta_after x (Switch b [] (bits_kept k))) old.meta (next-is s m old.meta)
            ∙ ap (λ (l : List Bool). meta_after (meta_in s) (Switch (update_bank s) [] l)) (bits-meant k staged ∙ sym (ap bits_staged (staging-on k staged on)))
            ∙ meta-switched s (update_bank s) [] p bits)
            (length-set s.banks (update_bank s) _) refl;
        next = restarts-idle new boot staged restarts.staging_is restarts.closed;
      }

  cancels : (new : Kept) → Restarts false k new → SI plan.Cancel m new
  unfolding planned
  cancels new restarts = record {
    spoken = spoken-restarted false s m new restarts old.meta refl refl;
    next = restarts-idle new boot staged restarts.staging_is restarts.closed;
  }

  -- the session stays
  spoken-moved : (t : State) (new_meta : MetaRead) → new_meta.meta ≡ meta_in t → length t.banks ≡ length s.banks → t.counter ≡ s.counter → (bank t boot).held ≡ (bank s boot).held → SpeaksWhole E t passes new_meta counter k boot staged
  spoken-moved t new_meta meta banks same held = record {
    speaks = record {
      rows = old.rows;
      banks = banks ∙ old.banks;
      verifier = old.verifier;
      meta = meta;
      counter_is = old.counter_is ∙ sym same;
      kept = old.kept;
    };
    totals = totals-held E s t boot k held sp.totals;
  }

  accepts : (image : ℕ) (store : Bool) (new_meta : MetaRead) → new_meta ≡ record m { meta = meta_planned k m.meta (plan.Accept image store) } → SI (plan.Accept image store) new_meta k
  unfolding planned
  accepts image true new_meta is = record {
    spoken =
        spoken-moved (after_move s (Accept image)) new_meta (ap (λ (r : MetaRead). r.meta) is ∙ ap (λ (x : Meta). meta_after x (Accept image)) old.meta ∙ meta-accepted s image)
        (length-set s.banks s.active _) refl (held-accepted s image boot);
    next = refl;
  }
  accepts image false new_meta is = record { spoken = spoken-moved s new_meta (ap (λ (r : MetaRead). r.meta) is ∙ old.meta) refl refl refl; next = refl }

  goes-back : (new_meta : MetaRead) → new_meta ≡ record m { meta = meta_planned k m.meta plan.Back } → SI plan.Back new_meta k
  unfolding planned
  goes-back new_meta is = record {
    spoken = spoken-moved (after_move s Back) new_meta (ap (λ (r : MetaRead). r.meta) is ∙ ap (λ (x : Meta). meta_after x Back) old.meta) refl refl refl;
    next = refl;
  }

  tells : SI plan.Tell m k
  unfolding planned
  tells = record { spoken = sp; next = refl }

  pub settled-in : (p : Plan) (new_meta : MetaRead) (new : Kept) → IsWhole p → IsPlanOf k p → HasTotal E s boot p → Changes k bytes p new → new_meta ≡ record m { meta = meta_planned k m.meta p } → SI p new_meta new
  settled-in plan.Tell new_meta new whole fits total changes is = subst (λ (r : MetaRead). SI plan.Tell r new) (sym is) (subst (SI plan.Tell m) (sym changes) tells)
  settled-in (plan.Begin store) new_meta new whole fits total changes is = begins store new_meta new changes is
  settled-in (plan.BeginPartial store named) new_meta new whole fits total changes is = absurd whole
  settled-in (plan.Open number None op.Read size) new_meta new whole fits total changes is =
      subst (λ (r : MetaRead). SI (plan.Open number None op.Read size) r new) (sym is) (subst (SI (plan.Open number None op.Read size) m) (sym changes) (reads-open number None size total))
  settled-in (plan.Open number (Some image) op.Read size) new_meta new whole fits total changes is =
      subst (λ (r : MetaRead). SI (plan.Open number (Some image) op.Read size) r new) (sym is) (subst (SI (plan.Open number (Some image) op.Read size) m) (sym changes) (reads-open number (Some image) size total))
  settled-in (plan.Open number None op.Write size) new_meta new whole fits total changes is = absurd fits
  settled-in (plan.Open number (Some image) op.Write size) new_meta new whole fits total changes is =
      subst (λ (r : MetaRead). SI (plan.Open number (Some image) op.Write size) r new) (sym is) (opens number image size new fits.1 fits.2 changes)
  settled-in (plan.Write number image at n) new_meta new whole fits total changes is =
      subst (λ (r : MetaRead). SI (plan.Write number image at n) r new) (sym is) (writes number image at n new fits.0 fits.1 changes)
  settled-in (plan.Read number image at n size) new_meta new whole fits total changes is =
      subst (λ (r : MetaRead). SI (plan.Read number image at n size) r new) (sym is) (subst (SI (plan.Read number image at n size) m) (sym changes) (reads-on number image at n size fits.1 fits.2))
  settled-in (plan.Commit number None bit) new_meta new whole fits total changes is =
      subst (λ (r : MetaRead). SI (plan.Commit number None bit) r new) (sym is) (subst (SI (plan.Commit number None bit) m) (sym changes) (closes number bit))
  settled-in (plan.Commit number (Some image) bit) new_meta new whole fits total changes is =
      subst (λ (r : MetaRead). SI (plan.Commit number (Some image) bit) r new) (sym is) (commits number image bit new fits.1 fits.2 fits.3 changes)
  settled-in plan.End new_meta new whole fits total changes is = ends-staging new_meta new fits changes is
  settled-in plan.Cancel new_meta new whole fits total changes is = subst (λ (r : MetaRead). SI plan.Cancel r new) (sym is) (cancels new changes)
  settled-in (plan.Accept image store) new_meta new whole fits total changes is = subst (SI (plan.Accept image store) new_meta) (sym changes) (accepts image store new_meta is)
  settled-in plan.Back new_meta new whole fits total changes is = subst (SI plan.Back new_meta) (sym changes) (goes-back new_meta is)

-- what settling a plan leaves
pub settled-by : (k : Kept) (m : MetaRead) (bytes : List ℕ) → length k.rows ≤ 16 → (p : Plan) (new_meta : MetaRead) (new : Kept) → IsPlanOf k p → Changes k bytes p new
    → new_meta ≡ record m { meta = meta_planned k m.meta p } → SettlesBy k m bytes (decision.Do p) new_meta new
settled-by k m bytes few (plan.BeginPartial store named) new_meta new fits changes is = λ E s passes counter boot staged sp total.
    settled-in E s passes m counter boot k staged bytes sp few (plan.Begin store) new_meta new tt tt tt changes is
settled-by k m bytes few other new_meta new fits changes is = λ E s passes counter boot staged sp total.
    settled-in E s passes m counter boot k staged bytes sp few other new_meta new tt fits total changes is
