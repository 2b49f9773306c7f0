-- A pass, turn by turn; and the passes.
-- Assumes nothing.
use borrow.Author.Tests.{eq-eqb}
use mathlib.Core.Path.{◌≡◌, refl, sym, ap, ap₂, subst, ◌∙◌}
use mathlib.Core.Bool.{Bool, true, false}
use mathlib.Core.List.{List, [], ◌∷◌}
use mathlib.Core.Option.{Option, none}
use Prim.Native.Nat.{ℕ, zero, suc, ◌+◌, ◌*◌, ◌-◌, ◌/◌, ◌%◌, ◌^◌, ◌≤◌, ◌<◌}
use native.Mathlib.Omega.{arith}
use native.Mathlib.Numerals.{add-one}
use native.Mathlib.Decide.{dec_le}
use lib.ListN.{length, set}
use lib.Seq.{get_or-set_same, get_or-set_other}
use Rattle.spec_search.specs.Search.{Trail, at_entry, Parents, Passed, then, passes, search}
use Rattle.words.specs.Lists.{All}
use Rattle.spec_search.specs.Lists.{AtLeast}
use Rattle.spec_search.proofs.Enough.{passes_step, search_enough}
use Rattle.words.specs.Words.{at, tabulate, WORK}
use Rattle.search_list.specs.Cursor.{goes, Mid}
use Rattle.search_list.proofs.CursorLaws.{at_end, all_longer}
use Rattle.search_list.specs.declared.Search.{Search}
use Rattle.search_list.specs.declared.Cursor.{Cursor}
use Rattle.std.proofs.Common.{Some, None, Continue, Break}
use Rattle.std.specs.Prelude as code
use Rattle.work_layout.specs.Layout.{USED, SEEN, LENS, COUNTS, ENTRIES, DEPTH}
use Rattle.path.specs.Bytes.{odd}
use Rattle.search_list.specs.State.{seen_at, chain, node_bits, trail_of, trails_of, parents_of_all, seen_of, count_at}
use Rattle.search_list.specs.Steps.{search_of, meaning, unseen, Links, Working, Kept, Stored, Turns, Cleared}
use Rattle.search_passes.specs.Limit.{Limit}
use Rattle.search_passes.specs.Passes.{Passes, Started}
use Rattle.search_passes.specs.Finds.{way_of, Usable, Finds}
use Rattle.work_layout.specs.Rows.{stack_of, Tops}
use Rattle.search_list.proofs.Trails.{length_trails}
use Rattle.search_list.proofs.Upward.{low_links, low_parents}
use Rattle.search_list.proofs.Room.{unseen_same}
use Rattle.search_list.proofs.Kept.{stack_same, low_tops}
use Rattle.search_list.proofs.TurnLaws.{kept_none}

pub kept_more : (w x y : List ℕ) → Kept w x → Kept x y → Kept w y
kept_more w x y a b = record { low = λ k l. b.low k l ∙ a.low k l; high = λ k l. b.high k l ∙ a.high k l }

-- ---- a pass

pub record Walking (w₀ w : List ℕ) (L : ℕ) (s₀ : Search) (k : Cursor) : Type 0 where
  pub sound : Working w k.search.depth k.search.paths k.search.nodes
  pub mid : Mid L (trails_of w k.search.paths) k.slot
  pub same : goes (parents_of_all w₀) (stack_of w₀ s₀.depth) L (trails_of w₀ s₀.paths) 0 (seen_of w₀ s₀.nodes) ≡ meaning w L (Continue k)
  pub deep : k.search.depth ≡ s₀.depth
  pub kept : Kept w₀ w
  pub len : length w ≡ length w₀

pub walking_start : (w : List ℕ) (L : ℕ) (s : Search) → Working w s.depth s.paths s.nodes → Mid L (trails_of w s.paths) 0
    → Walking w w L s (record { slot = 0; search = s })
walking_start w L s ok mid = record { sound = ok; mid = mid; same = refl; deep = refl; kept = kept_none w; len = refl }

module _ {w₀ w : List ℕ} {L : ℕ} {s₀ : Search} {k : Cursor} (a : Walking w₀ w L s₀ k) where
  module _ {y : List ℕ} (ly : length y ≡ length w) where
    pub walking_more : {k' : Cursor} → Turns w y k.search.depth L k.slot k.search.paths k.search.nodes (Continue k') → Walking w₀ y L s₀ k'
    walking_more t = record {
      sound = t.fine.0;
      mid = t.fine.1;
      same = a.same ∙ t.same;
      deep = t.fine.3 ∙ a.deep;
      kept = kept_more w₀ w y a.kept t.kept;
      len = ly ∙ a.len;
    }

    pub walking_ended : (r : code.Option ℕ) → Turns w y k.search.depth L k.slot k.search.paths k.search.nodes (Break r) → Passes w₀ y L s₀ (Break r)
    walking_ended (Some i) t = record { same = a.same ∙ t.same; fine = t.fine; kept = kept_more w₀ w y a.kept t.kept }
    walking_ended None t = record { same = a.same ∙ t.same; fine = tt; kept = kept_more w₀ w y a.kept t.kept }

  pub walking_end : k.search.paths ≤ k.slot → Passes w₀ w L s₀ (Continue k.search)
  walking_end h =
      let list = trails_of w k.search.paths in
      let b : k.slot ≡ length list = omega (arith, a.mid.within, length_trails w k.search.paths) in
      record {
        same = a.same ∙ at_end (parents_of_all w) (stack_of w k.search.depth) L list k.slot (seen_of w k.search.nodes) b;
        fine = (
          a.sound,
          record {
            within = omega arith;
            longer = tt;
            least =
                subst (λ (j : ℕ). All (AtLeast j) list) (sym (add-one L)) (all_longer b a.mid);
          },
          a.deep,
        );
        kept = a.kept;
      }

-- ---- the start

pub started : (w x y : List ℕ) (e : ℕ) → WORK ≤ length x → e < at w USED → Cleared w x → Stored (set x LENS 0) y 0 0 (e * 2 + 1) 0 → Started w y e
unfolding node_bits chain trails_of tabulate trail_of seen_of
started w x y e long h k s =
    let used : at y USED ≡ at w USED = s.below USED (omega arith) ∙ get_or-set_other x LENS USED 0 0 (omega arith) ∙ k.low USED (omega arith) in
    let bits : (z : ℕ) → z < ENTRIES → z < at y USED → seen_at y z ≡ false =
    λ z l u. ap (λ (q : ℕ). odd (q / 2 ^ (z % 32)))
    (s.below (SEEN + z / 32) (omega arith) ∙ get_or-set_other x LENS (SEEN + z / 32) 0 0 (omega arith)) ∙ k.none z (rw used at u) in
    let lens : at y (LENS + 0) ≡ 0 = s.below (LENS + 0) (omega arith) ∙ get_or-set_same x LENS 0 0 (omega arith) in
    record {
      nodes = record {
        few = omega arith;
        prev = λ j l. absurd (omega arith);
        lens = λ j l. let z : j ≡ 0 = omega arith in rw z lens;
        short = λ j l. let z : j ≡ 0 = omega arith in rw z (omega (arith, lens));
        marks = bits;
      };
      paths =
          λ i l. let z : i ≡ 0 = omega arith in rw z
          (record { node = omega (arith, s.node); entry = λ q. omega (arith, s.place, used); stack = λ q. absurd (omega (arith, s.extra)) });
      trails =
          rw (s.node, s.place, s.extra)
          (ap₂ {C = List Trail} (λ a b. at_entry [] a b ∷ []) (omega arith) (eq-eqb ((e * 2 + 1) % 2) 1 (omega arith)));
      kept = record {
        low = λ j l. s.below j (omega arith) ∙ get_or-set_other x LENS j 0 0 (omega arith) ∙ k.low j l;
        high = λ j l. s.above j (omega arith) ∙ get_or-set_other x LENS j 0 0 (omega arith) ∙ k.high j (omega arith);
      };
    }

-- ---- the passes

length_stack : (w : List ℕ) (d : ℕ) → length (stack_of w d) ≡ d
unfolding stack_of
length_stack w zero = refl
length_stack w (suc d) = ap suc (length_stack w d)

-- The limit that stops gives the same.
pub limited : (w : List ℕ) (d len e limit : ℕ) → Tops w d → Limit len limit
    → search (parents_of_all w) (stack_of w d) len e ≡ passes (parents_of_all w) (stack_of w d) (suc limit) 0 (at_entry [] e true ∷ []) []
unfolding search
limited w d len e limit t h = go (dec_le (8 * (len - 1)) 8192)
  where
    go : Dec (8 * (len - 1) ≤ 8192)
        → search (parents_of_all w) (stack_of w d) len e ≡ passes (parents_of_all w) (stack_of w d) (suc limit) 0 (at_entry [] e true ∷ []) []
    go (yes q) = ap (λ (k : ℕ). passes (parents_of_all w) (stack_of w d) (suc k) 0 (at_entry [] e true ∷ []) []) (sym (h.exact q))
    go (no q) =
        let b : length (stack_of w d) ≤ DEPTH = omega (arith, length_stack w d, t.deep) in
        let l : limit ≡ 8192 = h.beyond (omega arith) in
        search_enough (parents_of_all w) (stack_of w d) len e limit (omega arith) (omega arith)

-- The search was started: the words before that, w, and after it, y.
pub record Begun (w y : List ℕ) (d e : ℕ) : Type 0 where
  pub links : Links w
  pub tops : Tops w d
  pub few : unseen (count_at w) [] ENTRIES ≤ 2048
  pub started : Started w y e
  pub len : length y ≡ length w

pub begun_of : {w y : List ℕ} {d e : ℕ} → Links w × Tops w d × (unseen (count_at w) [] ENTRIES ≤ 2048) × (e < at w USED)
    → Started w y e → length y ≡ length w → Begun w y d e
begun_of p started len = record { links = p.0; tops = p.1; few = p.2; started = started; len = len }

-- The passes from l on give what all passes give.
pub record Searching (w₀ w : List ℕ) (d limit l : ℕ) (s : Search) : Type 0 where
  pub sound : Working w s.depth s.paths s.nodes
  pub mid : Mid l (trails_of w s.paths) 0
  pub within : l ≤ limit + 1
  pub same : passes (parents_of_all w₀) (stack_of w₀ d) (suc limit) 0 (trails_of w₀ 1) []
      ≡ passes (parents_of_all w₀) (stack_of w₀ d) (suc limit - l) l (trails_of w s.paths) (seen_of w s.nodes)
  pub deep : s.depth ≡ d
  pub kept : Kept w₀ w
  pub len : length w ≡ length w₀

pass_of : (P : Parents) (S : List ℕ) (k L : ℕ) (list : List Trail) (seen : List ℕ) → 0 < length list
    → passes P S (suc k) L list seen ≡ then (passes P S k (suc L)) (goes P S L list 0 seen)
unfolding goes
pass_of P S k L [] seen h = absurd (omega arith)
pass_of P S k L (p ∷ ps) seen h = passes_step P S k L p ps seen

no_passes : (P : Parents) (S : List ℕ) (L : ℕ) (list : List Trail) (seen : List ℕ) → passes P S 0 L list seen ≡ none
unfolding passes
no_passes P S L list seen = refl

no_paths : (P : Parents) (S : List ℕ) (k L : ℕ) (seen : List ℕ) → passes P S k L [] seen ≡ none
unfolding passes
no_paths P S zero L seen = refl
no_paths P S (suc k) L seen = refl

module _ {w y : List ℕ} {d e : ℕ} (b : Begun w y d e) where
  links_y : Links y
  links_y = low_links w y b.links b.started.kept.low b.len

  tops_y : Tops y d
  tops_y = low_tops w y d b.started.kept.low b.tops

  pub search_start : (limit : ℕ) → Searching y y d limit 0 (search_of 1 0 d)
  unfolding seen_of
  search_start limit = record {
    sound = record {
      links = links_y;
      tops = tops_y;
      nodes = b.started.nodes;
      paths = b.started.paths;
      room =
          rw (unseen_same (count_at w) (count_at y) [] ENTRIES (λ k l. b.started.kept.low (COUNTS + k) (omega arith))) (omega (arith, b.few));
    };
    mid = record { within = omega arith; longer = tt; least = rw b.started.trails (omega arith, tt) };
    within = omega arith;
    same = let z : suc limit - 0 ≡ suc limit = omega arith in rw z;
    deep = refl;
    kept = kept_none y;
    len = refl;
  }

  module _ {z : List ℕ} {limit l : ℕ} {s : Search} (k : Searching y z d limit l s) where
    -- What all passes give.
    all : Option (List Bool)
    all = passes (parents_of_all y) (stack_of y d) (suc limit) 0 (trails_of y 1) []

    -- What the passes give is what the search of the words before the start gives.
    finds : {v : List ℕ} {len : ℕ} {r : code.Option ℕ} → Limit len limit → all ≡ way_of v r → Usable v r → Kept z v → Finds w v d len e r
    unfolding all
    finds {v} {len} lim a u q = record {
      answer =
          ap₂ {C = Option (List Bool)} (λ P S. search P S len e) (sym (low_parents w y b.links b.started.kept.low))
          (sym (stack_same w y d b.started.kept.low b.tops.deep)) ∙ limited y d len e limit tops_y lim
          ∙ ap (λ (list : List Trail). passes (parents_of_all y) (stack_of y d) (suc limit) 0 list []) (sym b.started.trails) ∙ a;
      usable = u;
      kept = kept_more w y v b.started.kept (kept_more y z v k.kept q);
    }

    module _ {len : ℕ} (lim : Limit len limit) where
      pub search_end : limit < l → Finds w z d len e None
      unfolding all
      search_end h =
          let o : suc limit - l ≡ 0 = omega arith in
          finds lim
          (k.same ∙ ap (λ (j : ℕ). passes (parents_of_all y) (stack_of y d) j l (trails_of z s.paths) (seen_of z s.nodes)) o
          ∙ no_passes (parents_of_all y) (stack_of y d) l (trails_of z s.paths) (seen_of z s.nodes))
          tt (kept_none z)

      pub search_empty : s.paths ≡ 0 → Finds w z d len e None
      unfolding all trails_of tabulate
      search_empty h =
          finds lim
          (k.same ∙ ap (λ (j : ℕ). passes (parents_of_all y) (stack_of y d) (suc limit - l) l (trails_of z j) (seen_of z s.nodes)) h
          ∙ no_paths (parents_of_all y) (stack_of y d) (suc limit - l) l (seen_of z s.nodes))
          tt (kept_none z)

    module _ (hl : l ≤ limit) (hn : s.paths ≡ 0 → ⊥) where
      turned : (r : Passed) → goes (parents_of_all z) (stack_of z s.depth) l (trails_of z s.paths) 0 (seen_of z s.nodes) ≡ r
          → all ≡ then (passes (parents_of_all y) (stack_of y d) (limit - l) (suc l)) r
      unfolding all
      turned r q =
          let o : suc limit - l ≡ suc (limit - l) = omega arith in
          k.same ∙ ap (λ (j : ℕ). passes (parents_of_all y) (stack_of y d) j l (trails_of z s.paths) (seen_of z s.nodes)) o
          ∙ pass_of (parents_of_all y) (stack_of y d) (limit - l) l (trails_of z s.paths) (seen_of z s.nodes)
          (omega (arith, length_trails z s.paths))
          ∙ ap (then (passes (parents_of_all y) (stack_of y d) (limit - l) (suc l)))
          (ap₂ {C = Passed} (λ P S. goes P S l (trails_of z s.paths) 0 (seen_of z s.nodes)) (sym (low_parents y z links_y k.kept.low))
          (sym (stack_same y z d k.kept.low tops_y.deep) ∙ ap (stack_of z) (sym k.deep)) ∙ q)

      pub search_more : {v : List ℕ} {s' : Search} → length v ≡ length z → Passes z v l s (Continue s') → Searching y v d limit (l + 1) s'
      unfolding all
      search_more {v} lv p =
          let o : suc limit - (l + 1) ≡ limit - l = omega arith in
          record {
            sound = p.fine.0;
            mid = p.fine.1;
            within = omega arith;
            same = turned _ p.same ∙ rw (o, add-one l);
            deep = p.fine.2 ∙ k.deep;
            kept = kept_more y z v k.kept p.kept;
            len = lv ∙ k.len;
          }

      pub search_ended : {v : List ℕ} {len : ℕ} (r : code.Option ℕ) → Limit len limit → Passes z v l s (Break r) → Finds w v d len e r
      search_ended (Some i) lim p = finds lim (turned _ p.same) p.fine p.kept
      search_ended None lim p = finds lim (turned _ p.same) tt p.kept
