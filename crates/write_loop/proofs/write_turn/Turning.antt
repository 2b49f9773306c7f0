-- Turns one after the other, and the search before an item, which changes nothing that is meant.
-- Assumes nothing.
use Prim.Native.Nat.{ℕ, ◌+◌}
use mathlib.Core.Path.{◌≡◌, refl, sym, ap, ◌∙◌, subst}
use mathlib.Core.List.{List, ◌∷◌}
use native.Mathlib.Omega.{arith}
use lib.ListN.{length, take}
use lib.Seq.{take-take}
use Rattle.words.specs.Words.{at}
use Rattle.path.specs.declared.Measure.{Measure}
use Rattle.path.specs.Measure.{measure_of}
use Rattle.allocator.specs.declared.NodePtr.{NodePtr}
use Rattle.spec_session.specs.File.{File}
use Rattle.spec_session.specs.Unfold.{unfolded}
use Rattle.spec_session.proofs.UnfoldLaws.{unfolded_sentinel}
use Rattle.spec_session.specs.Cache.{Cache}
use Rattle.spec_session.specs.Writer.{Todo, parse, Written}
use Rattle.spec_session.specs.FindPath.{find_in}
use Rattle.spec_session.specs.Steps.{room_in}
use Rattle.spec_session.proofs.Loop.{turn_hole}
use Rattle.work_layout.specs.Layout.{PAIR_COUNT, SENTINEL, STACK, WRITTEN}
use Rattle.work_layout.specs.Rows.{stack_of}
use Rattle.std.specs.Prelude.{Option}
use Rattle.search_list.specs.Steps.{Kept}
use Rattle.cache_stack.proofs.Stacks.{stacked_same, stack_same}
use Rattle.cache_stack.proofs.marks.Bits.{marked_same}
use Rattle.cache_entries.specs.Meaning.{Tables, Names, Whole, Holds}
use Rattle.cache_entries.proofs.Entering.{sentinel_is}
use Rattle.cache_entries.specs.lookup.Effects.{EntryOf}
use Rattle.search_find.specs.Effects.{Ready, FindsIn}
use Rattle.write_place.specs.declared.Place.{Place}
use Rattle.write_loop.specs.declared.write_turn.Next.{Next}
use Rattle.write_loop.specs.declared.write_turn.Next.TheVariants.{Parse, Stopped}
use Rattle.write_place.specs.State.{AtomPlaces, AtomsThere, todo_of, Writes, WriterOnly}
use Rattle.write_loop.specs.Effects.{place_of, Runs, Fine, goes_on, comes_to, Leads, Turns, Found}
use Rattle.write_loop.proofs.write_turn.Frames.{only_both, only_same, holds_stay, tables_stay, pairs_stay, names_stay, places_stay, atoms_stay, Beside, beside_only, todo_stays, standing_stays}

-- ---- one after the other

module _ {m : Measure} {file w w₁ w₂ out out₁ out₂ : List ℕ} {a b r : Next} (wh : Whole w) (lw : length w₁ ≡ length w) (lo : length out₁ ≡ length out)
    (x : Turns m file w w₁ out out₁ a b) (y : Turns m file w₁ w₂ out₁ out₂ b r) where
  then_leads : (f : File) (c : Cache) (s : Written) → Tables f w → AtomsThere file f w → Writes f w out (place_of a).depth (place_of a).counts c s
      → Leads m f c (length out) w₂ out₂ r (comes_to m f c (length out) w a s)
  then_leads f c s t th wr =
      let l = x.leads f c s t th wr in
      let n =
      y.leads f c l.last (tables_stay w w₁ lw x.only wh f t) (atoms_stay w w₁ lw x.only wh file f t th) l.writes in
      let o : Leads m f c (length out) w₂ out₂ r (comes_to m f c (length out) w₁ b l.last) =
      subst (λ (space : ℕ). Leads m f c space w₂ out₂ r (comes_to m f c space w₁ b l.last)) lo n in
      record { last = o.last; writes = o.writes; same = l.same ∙ o.same }

  pub turns_then : Turns m file w w₂ out out₂ a r
  turns_then =
      record {
        fine = y.fine;
        only = only_both w w₁ w₂ x.only y.only;
        grows = omega (arith, x.grows, y.grows);
        before =
            sym (take-take (place_of a).counts.size (place_of b).counts.size out₂ x.grows) ∙ ap (take (place_of a).counts.size) y.before
            ∙ take-take (place_of a).counts.size (place_of b).counts.size out₁ x.grows ∙ x.before;
        leads = then_leads;
      }

pub turns_none : (m : Measure) (file w out : List ℕ) (b : Next) → Fine w out b → Turns m file w w out out b b
turns_none m file w out b g =
    record {
      fine = g;
      only = only_same w;
      grows = omega arith;
      before = refl;
      leads = λ f c s t th wr. record { last = s; writes = wr; same = refl };
    }

-- ---- the open place

pub turns_stop : {m : Measure} {file w out : List ℕ} (p : Place) (h : NodePtr) → Runs w out p 0 → Names w (at w PAIR_COUNT) h.0 → at w SENTINEL ≡ h.0
    → Turns m file w w out out (Parse p h) (Stopped p)
turns_stop {m} {file} {w} {out} p h run n q =
    record {
      fine = run;
      only = only_same w;
      grows = omega arith;
      before = refl;
      leads = λ f c s t th wr.
          record {
            last = s;
            writes = wr;
            same =
                ap (λ u. goes_on m c (length out) (parse u ∷ todo_of f w p.opens) s) (unfolded_sentinel f h.0 (sentinel_is f w h.0 t n q))
                ∙ turn_hole (find_in (measure_of m)) (room_in (length out)) c (todo_of f w p.opens) s;
          };
    }

-- ---- the search

module _ {w w₁ : List ℕ} (len : length w₁ ≡ length w) (k : Kept w w₁) where
  pub search_beside : Beside w w₁
  search_beside = record { len = len; low = λ j h. k.low j (omega arith); cache = λ j h l. k.low j l; high = k.high }

  search_only : WriterOnly w w₁
  search_only = beside_only w w₁ search_beside

  search_back : WriterOnly w₁ w
  search_back =
      let o = search_only in
      record { low = λ j h. sym (o.low j h); cache = λ j h l. sym (o.cache j h l); high = λ j h. sym (o.high j h) }

  module _ {out : List ℕ} (p : Place) (run : Runs w out p 0) where
    stack_stays : stack_of w₁ p.depth ≡ stack_of w p.depth
    stack_stays = stack_same w w₁ p.depth (λ i h. k.low (STACK + i) (omega (arith, run.stands.stacked.deep)))

    run_stays : Runs w₁ out p 0
    run_stays =
        record {
          stands =
              standing_stays w w₁ search_beside p.opens p.depth 0 run.stands p.depth 0
              (stacked_same w w₁ p.depth run.stands.stacked (λ j h l. k.low j (omega arith))) refl;
          fits = run.fits;
          bounded = run.bounded;
          short = run.short;
        }

    pub search_places : {file : List ℕ} → AtomPlaces file w → AtomPlaces file w₁
    search_places {file} a = places_stay w w₁ len search_only run.stands.whole file a

    writes_stay : (f : File) (c : Cache) (s : Written) → Tables f w → Writes f w out p.depth p.counts c s → Writes f w₁ out p.depth p.counts c s
    writes_stay f c s t wr =
        record {
          cache = holds_stay w w₁ len search_only run.stands.whole f c t wr.cache;
          stack = wr.stack ∙ sym stack_stays;
          marks = λ e l. wr.marks e l ∙ sym (marked_same w w₁ e l (λ i h. k.low (WRITTEN + i) (omega arith)));
          counts_are = wr.counts_are;
          bytes_are = wr.bytes_are;
        }

    module _ (h : NodePtr) (n : Names w (at w PAIR_COUNT) h.0) where
      names_there : Names w₁ (at w₁ PAIR_COUNT) h.0
      names_there =
          names_stay w w₁ len search_only run.stands.whole (at w PAIR_COUNT) (at w₁ PAIR_COUNT) h.0
          (pairs_stay w w₁ len search_only run.stands.whole) n

      turns_search : (m : Measure) (file : List ℕ) → Turns m file w w₁ out out (Parse p h) (Parse p h)
      turns_search m file =
          record {
            fine = (run_stays, names_there);
            only = search_only;
            grows = omega arith;
            before = refl;
            leads = λ f c s t th wr.
                record {
                  last = s;
                  writes = writes_stay f c s t wr;
                  same =
                      ap (λ (j : List Todo). goes_on m c (length out) (parse (unfolded f h.0) ∷ j) s)
                      (sym (todo_stays w w₁ search_beside p.opens p.depth 0 run.stands f));
                };
          }

      -- The search, and what is made of it.
      pub after_search : {m : Measure} {file w₂ out₂ : List ℕ} {r : Next} → Turns m file w₁ w₂ out out₂ (Parse p h) r → Turns m file w w₂ out out₂ (Parse p h) r
      after_search {m} {file} y = turns_then run.stands.whole len refl (turns_search m file) y

      back : (f : File) → Tables f w₁ → Tables f w
      back f t = tables_stay w₁ w (sym len) search_back run_stays.stands.whole f t

      holds_back : (f : File) (c : Cache) → Tables f w₁ → Holds f w₁ c → Holds f w c
      holds_back f c t ho = holds_stay w₁ w (sym len) search_back run_stays.stands.whole f c t ho

      -- The place where a path was looked for.
      pub found_there : {e : ℕ} {r : Option ℕ} → (at w SENTINEL ≡ h.0 → ⊥) → EntryOf w h.0 e → Ready w₁ r → Found w₁ out p h.0 e r
      found_there {e} {r} inner en re =
          record {
            running = run_stays;
            names = names_there;
            inner = λ q. inner (sym (search_only.low SENTINEL (omega arith)) ∙ q);
            entry =
                record {
                  low = en.low;
                  of_pair = λ i q. record { low = en.low; is = λ f c t ho. (en.of_pair i q).is f c (back f t) (holds_back f c t ho) };
                  of_atom = λ q. record { low = en.low; is = λ f c t ho. (en.of_atom q).is f c (back f t) (holds_back f c t ho) };
                };
            ready = re;
          }

      -- Where the search was made, the rest may forget how it was made.
      pub finds_there : {m : Measure} {e : ℕ} {r : Option ℕ} → FindsIn m w w₁ p.depth h.0 e r → FindsIn m w₁ w₁ p.depth h.0 e r
      finds_there {m} {e} fi =
          record {
            answer = λ f c marked t ho mk.
                ap (λ (st : List ℕ). find_in (measure_of m) c marked st h.0 e) stack_stays
                ∙ fi.answer f c marked (back f t) (holds_back f c t ho)
                (λ x l. mk x l ∙ marked_same w w₁ x l (λ i j. k.low (WRITTEN + i) (omega arith)));
            ready = fi.ready;
            kept = record { low = λ j l. refl; high = λ j l. refl };
          }
