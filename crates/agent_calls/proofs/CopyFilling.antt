-- What the copies and a partial begin leave as it was beside the update bank.
use Rattle.std.proofs.Common.{◌≡◌, inl, inr, ℕ, ◌+◌, ◌*◌, ◌%◌, ◌<◌, ◌≤◌, Bool, true, false, cond, not, List, length, get_or, All, Result, Ok, Err, is_ok, refl, sym, ap, subst, ◌∙◌, arith}
use Rattle.std.specs.Prelude.{IsTrue, IsFalse, IsErrOf}
use Rattle.std.proofs.lemmas.Bool.{cases_lt}
use Rattle.std.proofs.lemmas.List.Elements.{All-get_or}
use Rattle.flash_core.specs.{Told.Told, May.Keeps, Touches.TouchesOnly, declared.flash.FlashStop.FlashStop}
use Rattle.fwu_formats.specs.{Layout.Layout, Layout.start, Metadata.Meta, Metadata.MetaRead, Metadata.state_at}
use Rattle.fwu_model.specs.{State.Free, State.is_invalid, MoveMetas.meta_after}
use Rattle.replicas.specs.Stores.{Stores}
use Rattle.agent_kept.specs.{declared.parts.Handle.Handle, Kept.handle_kept}
use Rattle.agent_kept.specs.declared.parts.Handle.TheVariants as handle
use Rattle.agent_machine.specs.{declared.stop.Stop.Stop, Fields.Fields, Fields.target, Moment.Moment, Meets.IsDone}
use Rattle.agent_machine.specs.{Meets.IsRefused, Meets.Stays, Ends.IsWriter, Stored.StoresIf}
use Rattle.agent_machine.specs.Beside.{IsBesideBank, IsSpared, KeepsSpared, KeepsWhere, SparesBlocks, SparesBlocksWhere}
use Rattle.agent_machine.specs.declared.stop.Stop.TheVariants as stop
use Rattle.agent_machine.proofs.Beside.{blocks-still, blocks-then, spared-same, spared-then, spared-told}
use Rattle.agent_calls.specs.{Copies.FillsBank, Copies.StoresThenFills, Metas.meta_begun}

-- ---- one after the other

-- the update bank is the same where the layout is, and the active bank
bank-same : (P : Layout → ℕ → Type 0) (f g : Fields) → g.layout ≡ f.layout → g.meta.meta.active ≡ f.meta.meta.active
    → P g.layout (target g) → P f.layout (target f)
bank-same P f g layout active holds =
    subst (λ (n : ℕ). P f.layout ((n + 1) % f.layout.banks)) active
    (subst (λ (L : Layout). P L ((g.meta.meta.active + 1) % L.banks)) layout holds)

pub fills-none : (m : Moment) → FillsBank m m
fills-none m = record {
  tells = refl;
  layout = refl;
  metadata = refl;
  trials = refl;
  beside = λ told. spared-same (IsBesideBank m.fields.layout (target m.fields)) m.told;
  touches = λ n beside. refl;
}

pub fills-then : (a b c : Moment) → FillsBank a b → FillsBank b c → FillsBank a c
fills-then a b c ab bc = record {
  tells = bc.tells ∙ ab.tells;
  layout = bc.layout ∙ ab.layout;
  metadata = bc.metadata ∙ ab.metadata;
  trials = bc.trials ∙ ab.trials;
  beside = λ told. spared-then (IsBesideBank a.fields.layout (target a.fields)) a.told b.told c.told (ab.beside told)
      (bank-same (λ (L : Layout) (bank : ℕ). KeepsWhere (IsBesideBank L bank) b.told c.told) a.fields b.fields ab.layout
      (ap (λ (r : MetaRead). r.meta.active) ab.metadata) (bc.beside (subst IsTrue (sym ab.tells) told)));
  touches = blocks-then (IsBesideBank a.fields.layout (target a.fields)) ab.touches
      (bank-same (λ (L : Layout) (bank : ℕ). SparesBlocksWhere (IsBesideBank L bank) b.writes c.writes) a.fields b.fields ab.layout
      (ap (λ (r : MetaRead). r.meta.active) ab.metadata) bc.touches);
}

-- ---- one call

-- a call that is none
pub fills-same : (a b : Moment) → b ≡ a → FillsBank a b
fills-same a b same = subst (FillsBank a) (sym same) (fills-none a)

module _ (a b : Moment) (stays : Stays a b) (metadata : b.fields.meta ≡ a.fields.meta) (trials : b.fields.trials ≡ a.fields.trials) where
  -- one that leaves what is told, and erases and programs nothing
  pub fills-still : (IsTrue a.tells → b.told ≡ a.told) → b.writes ≡ a.writes → FillsBank a b
  fills-still still writes = record {
    tells = stays.tells;
    layout = stays.layout;
    metadata = metadata;
    trials = trials;
    beside = λ told. spared-told (IsBesideBank a.fields.layout (target a.fields)) a.told b.told (still told);
    touches = blocks-still (IsBesideBank a.fields.layout (target a.fields)) writes;
  }

  -- one that changes nothing up to the end of the marks
  pub fills-behind : (IsTrue a.tells → KeepsSpared a.fields a.told b.told) → SparesBlocks a.fields a.writes b.writes → (low high : ℕ) → 4096 * 4 ≤ low
      → (IsTrue a.tells → Keeps low high a.told b.told) → TouchesOnly low high a.writes b.writes → FillsBank a b
  fills-behind spares leaves low high behind keeps only = record {
    tells = stays.tells;
    layout = stays.layout;
    metadata = metadata;
    trials = trials;
    beside = λ told. record {
      size = (spares told).size;
      now = λ i beside. elim (cases_lt i (4096 * 4)) [
        | inl lt ↦ (keeps told).now i (inl (omega (arith, lt, behind)))
        | inr le ↦ (spares told).now i (spared i beside le)
      ];
      sure = λ i beside sure. elim (cases_lt i (4096 * 4)) [
        | inl lt ↦ (keeps told).sure i (inl (omega (arith, lt, behind))) sure
        | inr le ↦ (spares told).sure i (spared i beside le) sure
      ];
    };
    touches = λ n beside. elim (cases_lt n 4) [
      | inl lt ↦ only n (inl (omega (arith, lt, behind)))
      | inr le ↦ leaves n (spared (4096 * n) beside (omega (arith, le)))
    ];
  }
    where
      spared : (i : ℕ) → IsBesideBank a.fields.layout (target a.fields) i → 4096 * 4 ≤ i → IsSpared a.fields i
      spared i beside le = (inr le, λ active. beside)

-- by how a call ended
pub fills-by : (q : Result (Unit {0}) Stop) (a b : Moment) → (IsDone q → FillsBank a b) → (IsRefused q → b ≡ a) → (IsErrOf q stop.Gone → b ≡ a)
    → FillsBank a b
fills-by (Err (stop.Status st)) a b done refused gone = fills-same a b (refused tt)
fills-by (Err stop.Gone) a b done refused gone = fills-same a b (gone refl)
fills-by q a b done refused gone = done tt

-- by whether the first handle writes
pub fills-ended : (a b : Moment) → ((image : ℕ) → IsWriter a.fields 1 image → FillsBank a b)
    → (((image : ℕ) → IsWriter a.fields 1 image → ⊥) → FillsBank a b) → FillsBank a b
fills-ended a b ends still = by-handle (handle_kept a.fields.session 0) refl
  where
    by-handle : (h : Handle) → handle_kept a.fields.session 0 ≡ h → FillsBank a b
    by-handle handle.Free is = still (λ image writes. let free : handle.Free ≡ handle.Writes image = sym is ∙ writes.1 in cc)
    by-handle (handle.Reads i at total) is = still (λ image writes. let reads : handle.Reads i at total ≡ handle.Writes image = sym is ∙ writes.1 in cc)
    by-handle (handle.Writes i) is = ends i (omega arith, is)

-- where all images are named, none is to be copied
pub unnamed : (named : List Bool) (image : ℕ) → image < length named → All IsTrue named → get_or named image true ≡ false → ⊥
unnamed named image lt all is = let both : true ≡ false = sym (All-get_or IsTrue named image true lt all) ∙ is in cc

-- where an image's slot begins
pub slot-behind : (L : Layout) (bank image done : ℕ) → 4096 * 4 ≤ 4096 * start L bank image + done
slot-behind L bank image done = omega arith

-- ---- a partial begin

-- the metadata that a begin leaves has the same active bank
pub begun-active : (f : Fields) → (meta_begun f).meta.active ≡ f.meta.meta.active
begun-active f = by-test (is_invalid (state_at f.meta.meta (target f)))
  where
    by-test : (b : Bool) → (cond b f.meta.meta (meta_after f.meta.meta (Free (target f)))).active ≡ f.meta.meta.active
    by-test true = refl
    by-test false = refl

module _ (f : Fields) (q : Result (Unit {0}) FlashStop) (s t : Told) where
  abbrev invalid : Bool
  invalid = is_invalid (state_at f.meta.meta (target f))

  abbrev freed : Meta
  freed = meta_after f.meta.meta (Free (target f))

  -- a begin stores the metadata, or does nothing
  stores-by : (IsTrue invalid → IsTrue (is_ok q) × (t ≡ s)) → (IsFalse invalid → Stores q f.layout freed s t)
      → StoresIf (not invalid) q f.layout freed s t
  stores-by none some = by-test invalid none some
    where
      by-test : (b : Bool) → (IsTrue b → IsTrue (is_ok q) × (t ≡ s)) → (IsFalse b → Stores q f.layout freed s t)
          → StoresIf (not b) q f.layout freed s t
      by-test true none some = none refl
      by-test false none some = some refl

  -- stopped in the store
  pub stored-alone : (IsTrue invalid → IsTrue (is_ok q) × (t ≡ s)) → (IsFalse invalid → Stores q f.layout freed s t) → StoresThenFills q f s t
  stored-alone none some = record {
    stored = q;
    between = t;
    stores = stores-by none some;
    fills = spared-same (IsBesideBank f.layout (target f)) t;
    last = λ err. (refl, refl);
  }

-- stored, and then the copies
pub stored-filled : (result : Result (Unit {0}) FlashStop) (a b c : Moment) → b.tells ≡ a.tells → b.fields.layout ≡ a.fields.layout
    → b.fields.meta ≡ meta_begun a.fields
    → (IsTrue (is_invalid (state_at a.fields.meta.meta (target a.fields))) → b.told ≡ a.told)
    → (IsFalse (is_invalid (state_at a.fields.meta.meta (target a.fields)))
    → Stores {T = Unit {0}} (Ok tt) a.fields.layout (meta_after a.fields.meta.meta (Free (target a.fields))) a.told b.told)
    → FillsBank b c → IsTrue a.tells → StoresThenFills result a.fields a.told c.told
stored-filled result a b c tells layout begun none some fills told = record {
  stored = Ok tt;
  between = b.told;
  stores = stores-by a.fields (Ok tt) a.told b.told (λ is. (refl, none is)) some;
  fills = bank-same (λ (L : Layout) (bank : ℕ). KeepsWhere (IsBesideBank L bank) b.told c.told) a.fields b.fields layout
      (ap (λ (r : MetaRead). r.meta.active) begun ∙ begun-active a.fields) (fills.beside (subst IsTrue (sym tells) told));
  last = λ err. absurd cc;
}
