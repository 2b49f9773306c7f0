-- After a value: the end, the right side of the innermost open pair, or its close.
-- Assumes nothing.
use Prim.Native.Nat.{ℕ, suc, ◌+◌, ◌-◌, ◌*◌, ◌/◌, ◌%◌, ◌≤◌, ◌<◌}
use mathlib.Core.Path.{◌≡◌, refl, sym, ap, ◌∙◌, subst}
use mathlib.Core.List.{List, ◌∷◌}
use native.Mathlib.Omega.{arith}
use lib.ListN.{length, set, length-set}
use Rattle.words.specs.Words.{at}
use Rattle.path.specs.declared.Measure.{Measure}
use Rattle.path.specs.Measure.{measure_of}
use Rattle.allocator.specs.declared.NodePtr.{NodePtr}
use Rattle.spec_session.specs.File.{File}
use Rattle.spec_session.specs.Unfold.{unfolded}
use Rattle.spec_session.specs.Cache.{Cache}
use Rattle.spec_session.specs.Writer.{Todo, parse, close, Written, push, pop2}
use Rattle.spec_session.specs.FindPath.{find_in}
use Rattle.spec_session.specs.Steps.{room_in}
use Rattle.spec_session.proofs.Loop.{turn_done, turn_close}
use Rattle.work_layout.specs.Layout.{PAIRS, PAIR_COUNT, OPEN, WRITTEN}
use Rattle.work_layout.specs.Rows.{stack_of}
use Rattle.cache_stack.specs.Effects.{PoppedTwo}
use Rattle.cache_stack.proofs.marks.Bits.{marked_same}
use Rattle.cache_entries.specs.Meaning.{Tables, Names, Holds, Whole}
use Rattle.cache_entries.proofs.Entering.{names_grow}
use Rattle.write_place.specs.declared.Place.{Place}
use Rattle.write_loop.specs.declared.write_turn.Next.TheVariants.{Parse, Close, Done}
use Rattle.write_place.specs.State.{left_to_write, todo_of, rights_left, Standing, Writes, WriterOnly}
use Rattle.write_loop.specs.Effects.{Runs, goes_on, Turns, Falls, Closes}
use Rattle.write_loop.proofs.write_turn.Frames.{only_same, whole_stays, holds_stay, tables_stay, pairs_stay, names_stay, rights_few, rights_more}
use Rattle.write_loop.proofs.write_turn.Frames.{Beside, beside_only, beside_both, pairs_few, todo_stays, standing_stays}
use Rattle.write_loop.proofs.write_turn.Storing.{todo_none, todo_more, left_odd, left_even, store_only, store_standing, store_todo, store_writes}
use Rattle.write_loop.proofs.write_turn.Values.{push_beside, push_marks}

-- ---- no pair is open

pub done_turns : (w : List ℕ) (p : Place) → p.opens ≡ 0 → (m : Measure) (file out : List ℕ) → Runs w out p 1
    → (Turns m file w w out out (Close p) (Done p)) × Falls (length out) (Close p) (Done p)
done_turns w p q m file out run = (
  record {
    fine = (run, q);
    only = only_same w;
    grows = omega arith;
    before = refl;
    leads = λ f c s t th wr.
        record {
          last = s;
          writes = wr;
          same =
              ap (λ (n : ℕ). goes_on m c (length out) (todo_of f w n) s) q ∙ ap (λ (k : List Todo). goes_on m c (length out) k s) (todo_none f w)
              ∙ turn_done (find_in (measure_of m)) (room_in (length out)) c s;
        };
  },
  omega arith,
)

module _ (w : List ℕ) (p : Place) (st : Standing w p.opens p.depth 1) (n : ℕ) (is : p.opens ≡ suc n) where
  st' : Standing w (suc n) p.depth 1
  st' = subst (λ (m : ℕ). Standing w m p.depth 1) is st

  few : n < 4096
  few = omega (arith, st.few_opens)

  pub innermost_low : at w (OPEN + n) / 2 < at w PAIR_COUNT
  innermost_low = st'.pairs n (omega arith)

  low_pairs : (i : ℕ) → i < n → at w (OPEN + i) / 2 < 1024
  low_pairs i h = pairs_few w (suc n) p.depth 1 st' i (omega arith)

  -- The open pairs but the innermost.
  outer : (x : ℕ) → p.depth + rights_left w n ≡ n + x → Standing w n p.depth x
  outer x e =
      record {
        whole = st.whole;
        stacked = st.stacked;
        counts = st.counts;
        few_opens = omega (arith, few);
        pairs = λ i h. st'.pairs i (omega arith);
        balance = e;
      }

  todo_is : (f : File) → todo_of f w p.opens ≡ left_to_write f w (at w (OPEN + n)) (todo_of f w n)
  todo_is f = ap (todo_of f w) is ∙ todo_more f w n

  -- ---- its right side is still to come

  module _ (odd : at w (OPEN + n) % 2 ≡ 1) (right : NodePtr) (there : right.0 ≡ at w (PAIRS + 2 * (at w (OPEN + n) / 2) + 1)) where
    v : ℕ
    v = at w (OPEN + n)

    w' : List ℕ
    w' = set w (OPEN + n) (v - 1)

    right_todo : (f : File) → todo_of f w' p.opens ≡ close (v / 2) ∷ todo_of f w n
    unfolding w' v
    right_todo f =
        let half : (v - 1) / 2 ≡ v / 2 = omega arith in
        ap (todo_of f w') is
        ∙ store_todo w n (v - 1) few st.whole f low_pairs
        ∙ left_even f w' (v - 1) (todo_of f w n) (λ q. omega arith)
        ∙ ap (λ (i : ℕ). close i ∷ todo_of f w n) half

    right_standing : Standing w' p.opens p.depth 0
    unfolding w' v
    right_standing =
        let b = st'.balance in
        let m = rights_more w n in
        subst (λ (k : ℕ). Standing w' k p.depth 0) (sym is)
        (store_standing w n (v - 1) few st.whole p.depth 1 st.stacked (outer 1 (omega arith)) 0 (omega (arith, innermost_low)) (omega arith))

    right_names : Names w' (at w' PAIR_COUNT) right.0
    unfolding w' v
    right_names =
        let wh = st.whole in
        let o = store_only w n (v - 1) few wh in
        let len = length-set w (OPEN + n) (v - 1) in
        names_stay w w' len o wh (at w PAIR_COUNT) (at w' PAIR_COUNT) right.0 (pairs_stay w w' len o wh)
        (names_grow w (v / 2) (at w PAIR_COUNT) right.0 (omega (arith, innermost_low))
        (subst (λ (x : ℕ). Names w (v / 2) x) (sym there) (wh.handles.rights (v / 2) innermost_low)))

    pub right_turns : (m : Measure) (file out : List ℕ) → Runs w out p 1
        → (Turns m file w (set w (OPEN + n) (at w (OPEN + n) - 1)) out out (Close p) (Parse p right)) × Falls (length out) (Close p) (Parse p right)
    unfolding w' v
    right_turns m file out run = (
      record {
        fine = (record { stands = right_standing; fits = run.fits; bounded = run.bounded; short = run.short }, right_names);
        only = store_only w n (v - 1) few st.whole;
        grows = omega arith;
        before = refl;
        leads = λ f c s t th wr.
            record {
              last = s;
              writes = store_writes w n (v - 1) few st.whole f c out p.depth p.counts s st.stacked t wr;
              same =
                  ap (λ (k : List Todo). goes_on m c (length out) k s) (todo_is f ∙ left_odd f w v (todo_of f w n) odd)
                  ∙ ap (λ (k : List Todo). goes_on m c (length out) (parse (unfolded f (at w (PAIRS + 2 * (v / 2) + 1))) ∷ k) s) (sym (right_todo f))
                  ∙ ap (λ (x : ℕ). goes_on m c (length out) (parse (unfolded f x) ∷ todo_of f w' p.opens) s) (sym there);
            };
      },
      omega arith,
    )

  -- ---- it is complete

  module _ (even : at w (OPEN + n) % 2 ≡ 1 → ⊥) where
    two_values : p.depth + rights_left w n ≡ n + 2
    two_values = omega (arith, st'.balance, rights_more w n)

    pub two_there : 2 ≤ p.depth
    two_there = omega (arith, two_values, rights_few w n)

    module _ (w' : List ℕ) (len : length w' ≡ length w) (cl : Closes w w' p.depth (at w (OPEN + n) / 2)) where
      i : ℕ
      i = at w (OPEN + n) / 2

      mid : List ℕ
      mid = cl.middle

      to_mid : Beside w mid
      unfolding mid
      to_mid =
          record {
            len = cl.long;
            low = cl.popped.only.low;
            cache = λ k h l. cl.popped.only.high k (omega arith);
            high = λ k h. cl.popped.only.high k (omega arith);
          }

      from_mid : Beside mid w'
      unfolding mid
      from_mid = push_beside cl.middle w' (p.depth - 2) cl.entry (len ∙ sym cl.long) cl.stacks

      mid_whole : Whole mid
      mid_whole = whole_stays w mid to_mid.len (beside_only w mid to_mid) st.whole

      one_less : p.depth - 2 + 1 ≡ p.depth - 1
      one_less = omega (arith, two_there)

      abbrev closed : Cache → Written → Written
      closed c s = push c cl.entry (record { stack = pop2 s.stack; marked = s.marked; items = s.items })

      holds_mid : (f : File) (c : Cache) → Tables f w → Holds f w c → Holds f mid c
      holds_mid f c t ho = holds_stay w mid to_mid.len (beside_only w mid to_mid) st.whole f c t ho

      tables_mid : (f : File) → Tables f w → Tables f mid
      tables_mid f t = tables_stay w mid to_mid.len (beside_only w mid to_mid) st.whole f t

      close_stack : (s : Written) → s.stack ≡ stack_of w p.depth → ◌≡◌ {A = List ℕ} (cl.entry ∷ pop2 s.stack) (stack_of w' (p.depth - 1))
      unfolding mid
      close_stack s q =
          ap {B = List ℕ} (λ r. cl.entry ∷ pop2 r) (q ∙ cl.popped.stack) ∙ sym cl.stacks.pushed.stack ∙ ap (stack_of w') one_less

      close_writes : (f : File) (c : Cache) (out : List ℕ) (s : Written) → Tables f w → Writes f w out p.depth p.counts c s
          → Writes f w' out (p.depth - 1) p.counts c (closed c s)
      unfolding mid
      close_writes f c out s t wr =
          record {
            cache = holds_stay mid w' from_mid.len (beside_only mid w' from_mid) mid_whole f c (tables_mid f t) (holds_mid f c t wr.cache);
            stack = close_stack s wr.stack;
            marks =
                push_marks f c mid w' (p.depth - 2) cl.entry s.marked (holds_mid f c t wr.cache) cl.stacks
                (λ x l. wr.marks x l ∙ sym (marked_same w mid x l (λ j h. cl.popped.only.high (WRITTEN + j) (omega arith))));
            counts_are = wr.counts_are;
            bytes_are = wr.bytes_are;
          }

      outer_two : Standing w n p.depth 2
      outer_two = outer 2 two_values

      both : Beside w w'
      both = beside_both w mid w' to_mid from_mid

      close_standing : Standing w' n (p.depth - 1) 1
      unfolding mid
      close_standing =
          standing_stays w w' both n p.depth 2 outer_two (p.depth - 1) 1 (rw one_less at cl.stacks.pushed.stacked) (omega (arith, two_there))

      close_same : (m : Measure) (f : File) (c : Cache) (out : List ℕ) (s : Written) → Tables f w → Writes f w out p.depth p.counts c s
          → goes_on m c (length out) (todo_of f w p.opens) s ≡ goes_on m c (length out) (todo_of f w' n) (closed c s)
      unfolding mid i
      close_same m f c out s t wr =
          let k = todo_of f w n in
          ap (λ (j : List Todo). goes_on m c (length out) j s) (todo_is f ∙ left_even f w (at w (OPEN + n)) k even)
          ∙ turn_close (find_in (measure_of m)) (room_in (length out)) c i k s
          ∙ ap (λ (x : ℕ). goes_on m c (length out) k (push c x (record { stack = pop2 s.stack; marked = s.marked; items = s.items })))
          (cl.entry_is.is f c (tables_mid f t) (holds_mid f c t wr.cache))
          ∙ ap (λ (j : List Todo). goes_on m c (length out) j (closed c s)) (sym (todo_stays w w' both n p.depth 2 outer_two f))

      pub close_turns : (m : Measure) (file out : List ℕ) → Runs w out p 1
          → (Turns m file w w' out out (Close p) (Close (record { opens = n; depth = p.depth - 1; counts = p.counts })))
          × Falls (length out) (Close p) (Close (record { opens = n; depth = p.depth - 1; counts = p.counts }))
      close_turns m file out run = (
        record {
          fine = record { stands = close_standing; fits = run.fits; bounded = run.bounded; short = run.short };
          only = beside_only w w' both;
          grows = omega arith;
          before = refl;
          leads = λ f c s t th wr. record { last = closed c s; writes = close_writes f c out s t wr; same = close_same m f c out s t wr };
        },
        omega (arith, is),
      )

-- ---- as the code has it: the innermost word is v

-- There is a pair open.
one_open : (n : ℕ) → (n ≡ 0 → ⊥) → n ≡ suc (n - 1)
one_open n q = omega arith

module _ {w : List ℕ} (p : Place) {v : ℕ} (stands : Standing w p.opens p.depth 1) (opened : p.opens ≡ 0 → ⊥) (word : v ≡ at w (OPEN + (p.opens - 1))) where
  more : p.opens ≡ suc (p.opens - 1)
  more = one_open p.opens opened

  number_is : at w (OPEN + (p.opens - 1)) / 2 ≡ v / 2
  number_is = ap (λ (x : ℕ). x / 2) (sym word)

  pub pair_low : v / 2 < at w PAIR_COUNT
  pair_low = rw number_is at (innermost_low w p stands (p.opens - 1) more)

  pub goes_right : v % 2 ≡ 1 → (right : NodePtr) → right.0 ≡ at w (PAIRS + 2 * (v / 2) + 1) → (m : Measure) (file out : List ℕ) → Runs w out p 1
      → (Turns m file w (set w (OPEN + (p.opens - 1)) (v - 1)) out out (Close p) (Parse p right)) × Falls (length out) (Close p) (Parse p right)
  goes_right odd right there m file out run =
      let n = p.opens - 1 in
      subst (λ (x : ℕ). (Turns m file w (set w (OPEN + n) (x - 1)) out out (Close p) (Parse p right)) × Falls (length out) (Close p) (Parse p right)) (sym word)
      (right_turns w p stands n more (ap (λ (x : ℕ). x % 2) (sym word) ∙ odd) right
      (there ∙ ap (λ (x : ℕ). at w (PAIRS + 2 * x + 1)) (sym number_is)) m file out run)

  module _ (even : v % 2 ≡ 1 → ⊥) where
    not_odd : at w (OPEN + (p.opens - 1)) % 2 ≡ 1 → ⊥
    not_odd r = even (ap (λ (x : ℕ). x % 2) word ∙ r)

    pub values_there : 2 ≤ p.depth
    values_there = two_there w p stands (p.opens - 1) more not_odd

    pub closes_one : {w' : List ℕ} → length w' ≡ length w → Closes w w' p.depth (v / 2) → (m : Measure) (file out : List ℕ) → Runs w out p 1
        → (Turns m file w w' out out (Close p) (Close (record { opens = p.opens - 1; depth = p.depth - 1; counts = p.counts })))
        × Falls (length out) (Close p) (Close (record { opens = p.opens - 1; depth = p.depth - 1; counts = p.counts }))
    closes_one {w'} len cl m file out run =
        close_turns w p stands (p.opens - 1) more not_odd w' len
        (subst (λ (x : ℕ). Closes w w' p.depth x) (sym number_is) cl) m file out run

-- Two entries popped leave the words whole.
module _ {w w' : List ℕ} {d : ℕ} (len : length w' ≡ length w) (pop : PoppedTwo w w' d) (wh : Whole w) where
  popped_only : WriterOnly w w'
  popped_only =
      record {
        low = λ k h. pop.only.low k (omega arith);
        cache = λ k h l. pop.only.high k (omega arith);
        high = λ k h. pop.only.high k (omega arith);
      }

  pub popped_whole : Whole w'
  popped_whole = whole_stays w w' len popped_only wh

  pub popped_pairs : at w' PAIR_COUNT ≡ at w PAIR_COUNT
  popped_pairs = pairs_stay w w' len popped_only wh
