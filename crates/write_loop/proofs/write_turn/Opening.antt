-- A pair in full: questions 12 and 13, its `ff`, and its left side next.
-- Assumes nothing.
use Prim.Native.Nat.{ℕ, zero, suc, ◌+◌, ◌*◌, ◌/◌, ◌%◌, ◌≤◌, ◌<◌}
use mathlib.Core.Path.{◌≡◌, refl, sym, ap, ◌∙◌, subst}
use mathlib.Core.Bool.{true, false}
use mathlib.Core.List.{List, [], ◌∷◌, ◌++◌}
use native.Mathlib.Omega.{arith}
use native.Mathlib.Numerals.{add-one}
use lib.ListN.{length, set, length-set}
use lib.Dec.{eqb}
use borrow.Author.Tests.{lt-ltb, le-ltb}
use Rattle.allocator.specs.HandleLaws.{is_pair_handle, pair_of_index}
use Rattle.words.specs.Choice.{by_cond}
use Rattle.words.specs.Words.{at}
use Rattle.path.specs.declared.Measure.{Measure}
use Rattle.path.specs.Measure.{measure_of}
use Rattle.allocator.specs.declared.NodePtr.{NodePtr}
use Rattle.allocator.specs.Handle.{pair, node_of, index_of, is_pair}
use Rattle.spec_session.specs.File.{File}
use Rattle.spec_session.specs.Unfold.{Unfolded, unfolded}
use Rattle.spec_session.specs.Cache.{Cache}
use Rattle.spec_session.specs.Items.{cons_item, item_bytes}
use Rattle.spec_session.specs.Writer as session
use Rattle.spec_session.specs.Writer.{Todo, parse, close, Written, and_then, pair_entry, put_if}
use Rattle.spec_session.specs.FindPath.{find_in}
use Rattle.spec_session.specs.Steps.{open_pairs, too_deep, room_in}
use Rattle.spec_session.proofs.Loop.{turn_pair}
use Rattle.work_layout.specs.Layout.{PAIRS, PAIR_COUNT, OPEN}
use Rattle.std.specs.Prelude.{Ok, Err, None}
use Rattle.write_counts.specs.declared.Counts.{Counts}
use Rattle.write_item.specs.declared.OutputFull.{OutputFull}
use Rattle.write_item.specs.Answers.{ItemPut}
use Rattle.write_item.proofs.Counting.{put_none}
use Rattle.cache_entries.specs.Meaning.{Tables, Names}
use Rattle.cache_entries.proofs.Entering.{names_grow, pair_low, is_node}
use Rattle.search_find.specs.Effects.{FindsIn}
use Rattle.write_place.specs.declared.Place.{Place}
use Rattle.write_place.specs.declared.AddError.{AddError}
use Rattle.write_place.specs.declared.AddError.TheVariants as add_error
use Rattle.write_place.specs.Numbers.{question_of}
use Rattle.write_loop.specs.declared.write_turn.Next.TheVariants.{Parse, Refused}
use Rattle.write_place.specs.State.{todo_of, Standing, Writes}
use Rattle.write_place.proofs.Sizes.{size_written}
use Rattle.write_loop.specs.Effects.{goes_on, Turns, Falls, Found, TurnsFound}
use Rattle.write_loop.proofs.write_turn.Frames.{only_same, pairs_stay, names_stay, pairs_few}
use Rattle.write_loop.proofs.write_turn.Items.{put_there, taken_before, running_more, counts_written, bytes_written, room_there, room_gone}
use Rattle.write_loop.proofs.write_turn.Values.{found_is, pair_is}
use Rattle.write_loop.proofs.write_turn.Storing.{left_odd, store_only, store_standing, store_todo, store_writes}

-- As many pairs are open as the words say.
open_count : (f : File) (w : List ℕ) (n : ℕ) → open_pairs (todo_of f w n) ≡ n
unfolding todo_of
open_count f w zero = refl
open_count f w (suc n) =
    let v = at w (OPEN + n) in
    by_cond (λ (k : List Todo). open_pairs k ≡ suc n) (eqb (v % 2) 1)
    (parse (unfolded f (at w (PAIRS + 2 * (v / 2) + 1))) ∷ close (v / 2) ∷ todo_of f w n) (close (v / 2) ∷ todo_of f w n)
    (λ q. ap suc (open_count f w n)) (λ q. ap suc (open_count f w n))

module _ {w out : List ℕ} {p : Place} (h : NodePtr) {e : ℕ} (fo : Found w out p h.0 e None) (pr : is_pair (node_of h.0) ≡ true) where
  number : ℕ
  number = index_of (node_of h.0)

  pub is_number : node_of h.0 ≡ pair (index_of (node_of h.0))
  is_number = pair_of_index (node_of h.0) pr

  pub number_low : index_of (node_of h.0) < at w PAIR_COUNT
  number_low = pair_low w (at w PAIR_COUNT) h.0 (index_of (node_of h.0)) fo.names is_number

  pub number_few : index_of (node_of h.0) < 1024
  number_few = omega (arith, number_low, fo.running.stands.whole.handles.few_pairs)

  few_number : number < 1024
  unfolding number
  few_number = number_few

  abbrev sides : File → List Todo → List Todo
  sides f k = parse (unfolded f (at w (PAIRS + 2 * number))) ∷ parse (unfolded f (at w (PAIRS + 2 * number + 1))) ∷ close number ∷ k

  -- The equation of a pair in full.
  in_full : (m : Measure) → FindsIn m w w p.depth h.0 e None → (f : File) (c : Cache) (s : Written) → Tables f w → Writes f w out p.depth p.counts c s → (k : List Todo)
      → goes_on m c (length out) (parse (unfolded f h.0) ∷ k) s
      ≡ and_then (put_if (room_in (length out) k s.items cons_item) cons_item s) (goes_on m c (length out) (sides f k))
  unfolding number
  in_full m finds f c s t wr k =
      let i = index_of (node_of h.0) in
      ap (λ (u : Unfolded). goes_on m c (length out) (parse u ∷ k) s) (is_node w h.0 i fo.running.stands.whole fo.names fo.inner is_number f t)
      ∙ turn_pair (find_in (measure_of m)) (room_in (length out)) c i (unfolded f (at w (PAIRS + 2 * i))) (unfolded f (at w (PAIRS + 2 * i + 1))) k s
      (ap (λ (g : ℕ). find_in (measure_of m) c s.marked s.stack g (pair_entry c i)) (sym (is_pair_handle h.0 i is_number))
      ∙ found_is finds t wr (pair_is fo t wr i is_number))

  refused : (file : List ℕ) (x : AddError) (n : ℕ) → question_of x ≡ suc n → ((f : File) (c : Cache) (s : Written) → Writes f w out p.depth p.counts c s
      → room_in (length out) (todo_of f w p.opens) s.items cons_item ≡ suc n)
      → (m : Measure) → FindsIn m w w p.depth h.0 e None → Turns m file w w out out (Parse p h) (Refused x p)
  refused file x n q room m finds =
      record {
        fine = fo.running;
        only = only_same w;
        grows = omega arith;
        before = refl;
        leads = λ f c s t th wr.
            let k = todo_of f w p.opens in
            record {
              last = s;
              writes = wr;
              same =
                  in_full m finds f c s t wr k
                  ∙ ap (λ (x : ℕ). and_then (put_if x cons_item s) (goes_on m c (length out) (sides f k))) (room f c s wr)
                  ∙ ap (λ (j : ℕ). session.refused j s) (sym q);
            };
      }

  -- Question 12.
  pub deep_turns : 4096 ≤ p.opens → (file : List ℕ) → TurnsFound file w w out out p h e None (Refused add_error.TooManyOpen p)
  deep_turns q file =
      (refused file add_error.TooManyOpen 11 refl (λ f c s wr. rw (open_count f w p.opens, lt-ltb 4095 p.opens (omega arith))), omega arith)

  module _ (shallow : p.opens < 4096) (out' : List ℕ) where
    not_deep : (f : File) → too_deep cons_item (todo_of f w p.opens) ≡ false
    not_deep f = rw (open_count f w p.opens, le-ltb 4095 p.opens (omega arith))

    -- Question 13.
    pub lacks_turns : {x : OutputFull} → ItemPut out out' p.counts cons_item (Err x) → (file : List ℕ) → TurnsFound file w w out out' p h e None (Refused add_error.OutputFull p)
    lacks_turns a file =
        let n = put_none out out' p.counts.size (item_bytes cons_item) a.bytes in (
          λ m finds.
              subst (λ (x : List ℕ). Turns m file w w out x (Parse p h) (Refused add_error.OutputFull p)) (sym n.1)
              (refused file add_error.OutputFull 12 refl (λ f c s wr. room_gone (length out) (todo_of f w p.opens) s.items cons_item (not_deep f) (omega (arith, n.0, size_written wr))) m finds),
          omega arith,
        )

    module _ (n : Counts) (l : NodePtr) (left : l.0 ≡ at w (PAIRS + 2 * index_of (node_of h.0))) (a : ItemPut out out' p.counts cons_item (Ok n)) where
      w' : List ℕ
      w' = set w (OPEN + p.opens) (number * 2 + 1)

      after : Place
      after = record { opens = p.opens + 1; depth = p.depth; counts = n }

      abbrev with_mark : Written → Written
      with_mark s = record { stack = s.stack; marked = s.marked; items = s.items ++ cons_item ∷ [] }

      low_pairs : (i : ℕ) → i < p.opens → at w (OPEN + i) / 2 < 1024
      low_pairs = pairs_few w p.opens p.depth 0 fo.running.stands

      opened_todo : (f : File) → todo_of f w' (p.opens + 1) ≡ parse (unfolded f (at w (PAIRS + 2 * number + 1))) ∷ close number ∷ todo_of f w p.opens
      unfolding w'
      opened_todo f =
          let k = todo_of f w p.opens in
          let v = number * 2 + 1 in
          let half : v / 2 ≡ number = omega arith in
          let few = few_number in
          ap (todo_of f w') (add-one p.opens)
          ∙ store_todo w p.opens v shallow fo.running.stands.whole f low_pairs
          ∙ left_odd f w' v k (omega arith)
          ∙ ap (λ (i : ℕ). parse (unfolded f (at w' (PAIRS + 2 * i + 1))) ∷ close i ∷ k) half
          ∙ ap (λ (x : ℕ). parse (unfolded f x) ∷ close number ∷ k)
          ((store_only w p.opens v shallow fo.running.stands.whole).low (PAIRS + 2 * number + 1) (omega arith))

      opened_writes : (f : File) (c : Cache) (s : Written) → Tables f w → Writes f w out p.depth p.counts c s → Writes f w' out' p.depth n c (with_mark s)
      unfolding w'
      opened_writes f c s t wr =
          let y =
          store_writes w p.opens (number * 2 + 1) shallow fo.running.stands.whole f c out p.depth p.counts s fo.running.stands.stacked t wr in
          record {
            cache = y.cache;
            stack = y.stack;
            marks = y.marks;
            counts_are = counts_written a s.items wr.counts_are;
            bytes_are = bytes_written a s.items wr.bytes_are;
          }

      opened_same : (m : Measure) → FindsIn m w w p.depth h.0 e None → (f : File) (c : Cache) (s : Written) → Tables f w
          → Writes f w out p.depth p.counts c s
          → goes_on m c (length out) (parse (unfolded f h.0) ∷ todo_of f w p.opens) s
          ≡ goes_on m c (length out) (parse (unfolded f l.0) ∷ todo_of f w' (p.opens + 1)) (with_mark s)
      unfolding number
      opened_same m finds f c s t wr =
          let k = todo_of f w p.opens in
          in_full m finds f c s t wr k
          ∙ ap (λ (x : ℕ). and_then (put_if x cons_item s) (goes_on m c (length out) (sides f k)))
          (room_there (length out) k s.items cons_item (not_deep f) (omega (arith, (put_there a).fits, size_written wr)))
          ∙ ap (λ (j : List Todo). goes_on m c (length out) (parse (unfolded f (at w (PAIRS + 2 * number))) ∷ j) (with_mark s)) (sym (opened_todo f))
          ∙ ap (λ (x : ℕ). goes_on m c (length out) (parse (unfolded f x) ∷ todo_of f w' (p.opens + 1)) (with_mark s)) (sym left)

      opened_standing : Standing w' (p.opens + 1) p.depth 0
      unfolding w' number
      opened_standing =
          let s = fo.running.stands in
          let v = number * 2 + 1 in
          subst (λ (n : ℕ). Standing w' n p.depth 0) (sym (add-one p.opens))
          (store_standing w p.opens v shallow s.whole p.depth 0 s.stacked s 0 (omega (arith, number_low)) (omega (arith, s.balance)))

      left_names : Names w' (at w' PAIR_COUNT) l.0
      unfolding w'
      left_names =
          let wh = fo.running.stands.whole in
          let o = store_only w p.opens (number * 2 + 1) shallow wh in
          let len = length-set w (OPEN + p.opens) (number * 2 + 1) in
          names_stay w w' len o wh (at w PAIR_COUNT) (at w' PAIR_COUNT) l.0 (pairs_stay w w' len o wh)
          (names_grow w (index_of (node_of h.0)) (at w PAIR_COUNT) l.0 (omega (arith, number_low))
          (subst (λ (x : ℕ). Names w (index_of (node_of h.0)) x) (sym left) (wh.handles.lefts (index_of (node_of h.0)) number_low)))

      opened_turns : (file : List ℕ) (m : Measure) → FindsIn m w w p.depth h.0 e None → Turns m file w w' out out' (Parse p h) (Parse after l)
      unfolding after w'
      opened_turns file m finds =
          record {
            fine = (running_more a fo.running opened_standing, left_names);
            only = store_only w p.opens (number * 2 + 1) shallow fo.running.stands.whole;
            grows = omega (arith, (put_there a).end);
            before = taken_before a;
            leads = λ f c s t th wr. record { last = with_mark s; writes = opened_writes f c s t wr; same = opened_same m finds f c s t wr };
          }

      opened_falls : Falls (length out) (Parse p h) (Parse after l)
      unfolding after
      opened_falls = omega (arith, (put_there a).end, (put_there a).fits)

    -- The `ff` is written, and the pair's word stored, at a number x that is the pair's.
    pub opens_turns : (n : Counts) (x : ℕ) (l : NodePtr) → x ≡ index_of (node_of h.0) → l.0 ≡ at w (PAIRS + 2 * index_of (node_of h.0))
        → ItemPut out out' p.counts cons_item (Ok n) → (file : List ℕ)
        → TurnsFound file w (set w (OPEN + p.opens) (x * 2 + 1)) out out' p h e None (Parse (record { opens = p.opens + 1; depth = p.depth; counts = n }) l)
    unfolding w' after number
    opens_turns n x l q left a file = rw q (opened_turns n l left a file, opened_falls n l left a)
