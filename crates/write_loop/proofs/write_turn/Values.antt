-- An item for a whole subtree: a reference, or an atom in full. Its entry goes on the stack; or there is no room for it.
-- Assumes nothing.
use Prim.Native.Nat.{ℕ, ◌+◌, ◌≤◌, ◌<◌}
use mathlib.Core.Path.{◌≡◌, refl, sym, ap, ◌∙◌, subst}
use mathlib.Core.Bool.{Bool, true, false, cond, ◌||◌}
use mathlib.Core.List.{List, [], ◌∷◌, ◌++◌}
use mathlib.Core.Option.{Option, some}
use native.Mathlib.Omega.{arith}
use lib.Dec.{eqb, ltb}
use lib.ListN.{length}
use Rattle.spec_session.proofs.Formed.{atom_byte}
use Rattle.spec_session.proofs.FindPathLaws.{without_end}
use Rattle.allocator.specs.HandleLaws.{is_pair_handle}
use Rattle.words.specs.Words.{at}
use Rattle.path.specs.declared.Measure.{Measure}
use Rattle.path.specs.Measure.{measure_of}
use Rattle.allocator.specs.declared.NodePtr.{NodePtr}
use Rattle.allocator.specs.Handle.{pair, node_of, index_of, is_atom}
use Rattle.spec_search.specs.Search.{member}
use Rattle.spec_session.specs.File.{File}
use Rattle.spec_session.specs.Unfold.{Unfolded, leaf, unfolded}
use Rattle.spec_session.specs.Cache.{Cache, length_at}
use Rattle.spec_session.specs.Items.{Item, atom_item, reference_item, item_bytes}
use Rattle.spec_session.specs.Writer as session
use Rattle.spec_session.specs.Writer.{Todo, parse, Written, done, and_then, atom_entry, pair_entry, push, put_if, put_whole}
use Rattle.spec_session.specs.FindPath.{without_terminator, find_in}
use Rattle.spec_session.specs.Steps.{room_in}
use Rattle.spec_session.proofs.Loop.{turn_atom, turn_atom_ref, turn_pair_ref}
use Rattle.work_layout.specs.Layout.{PAIR_COUNT, ENTRIES}
use Rattle.std.specs.Prelude as code
use Rattle.std.specs.Prelude.{Result, Ok, Err, Some, None}
use Rattle.search_list.specs.State.{path_at}
use Rattle.cache_stack.specs.marks.Effects.{marked_at}
use Rattle.write_counts.specs.declared.Counts.{Counts}
use Rattle.write_item.specs.declared.OutputFull.{OutputFull}
use Rattle.write_item.specs.Answers.{ItemPut}
use Rattle.write_item.proofs.Counting.{put_none}
use Rattle.cache_entries.specs.Meaning.{bytes_named, Tables, Holds}
use Rattle.cache_entries.proofs.Entering.{names_pair, is_leaf, is_node}
use Rattle.search_find.specs.Effects.{steps_of, FindsIn}
use Rattle.write_place.specs.declared.Place.{Place}
use Rattle.write_place.specs.declared.AddError.TheVariants as add_error
use Rattle.write_loop.specs.declared.write_turn.Next.{Next}
use Rattle.write_loop.specs.declared.write_turn.Next.TheVariants.{Parse, Close, Refused}
use Rattle.write_place.specs.State.{AtomsThere, todo_of, Writes}
use Rattle.write_place.proofs.Sizes.{size_written}
use Rattle.write_loop.specs.Effects.{Runs, goes_on, Turns, Falls, Found, TurnsFound, AtomPut, Stacks, Pushes}
use Rattle.write_loop.proofs.write_turn.Frames.{only_same, holds_stay, Beside, beside_only, todo_stays, standing_stays}
use Rattle.write_loop.proofs.write_turn.Items.{put_there, taken_before, running_more, counts_written, bytes_written, WholeItem, whole_fits, whole_lacks}

-- ---- an entry goes on the stack

pub push_beside : (w w' : List ℕ) (d e : ℕ) → length w' ≡ length w → Stacks w w' d e → Beside w w'
push_beside w w' d e len st =
    record {
      len = len;
      low = st.pushed.low;
      cache = λ k h l. st.pushed.high k h;
      high = λ k h. st.pushed.high k (omega arith);
    }

-- The marks of the list with e, where its length is at least 4, are those of the words.
pub push_marks : (f : File) (c : Cache) (w w' : List ℕ) (d e : ℕ) (m : List ℕ) → Holds f w c → Stacks w w' d e
    → ((x : ℕ) → x < ENTRIES → member x m ≡ marked_at w x)
    → (x : ℕ) → x < ENTRIES → member x (cond (ltb (length_at e c.entries) 4) m (e ∷ m)) ≡ marked_at w' x
push_marks f c w w' d e m ho st mk x l =
    ap (λ (n : ℕ). member x (cond (ltb n 4) m (e ∷ m))) (st.length_is.is f c ho) ∙ go (ltb st.len 4) ∙ sym (st.pushed.marks x l)
  where
    go : (b : Bool) → member x (cond b m (e ∷ m)) ≡ cond b (marked_at w x) (eqb x e || marked_at w x)
    go true = mk x l
    go false = ap (λ (y : Bool). eqb x e || y) (mk x l)

-- ---- the item

-- The item stands for the whole subtree of the node h, of entry e.
abbrev pub StandsFor : Measure → (file w out : List ℕ) → Place → (h e : ℕ) → Item → Type 0
StandsFor m file w out p h e i =
    (f : File) (c : Cache) (s : Written) → Tables f w → AtomsThere file f w → Writes f w out p.depth p.counts c s → (k : List Todo)
    → goes_on m c (length out) (parse (unfolded f h) ∷ k) s
    ≡ and_then (put_whole (find_in (measure_of m)) (room_in (length out)) c k e i s) (goes_on m c (length out) k)

module _ (file w w' out out' : List ℕ) (p : Place) (h : NodePtr) (e : ℕ) (i : Item) (run : Runs w out p 0) (whole : WholeItem i)
    (some_bytes : 1 ≤ length (item_bytes i)) (len : length w' ≡ length w) where
  -- What is written with the item.
  abbrev with_value : Cache → Written → Written
  with_value c s = push c e (record { stack = s.stack; marked = s.marked; items = s.items ++ i ∷ [] })

  module _ (n : Counts) (a : ItemPut out out' p.counts i (Ok n)) (st : Stacks w w' p.depth e) where
    after : Place
    after = record { opens = p.opens; depth = p.depth + 1; counts = n }

    beside : Beside w w'
    beside = push_beside w w' p.depth e len st

    value_writes : (f : File) (c : Cache) (s : Written) → Tables f w → Writes f w out p.depth p.counts c s → Writes f w' out' (p.depth + 1) n c (with_value c s)
    value_writes f c s t wr =
        record {
          cache = holds_stay w w' len (beside_only w w' beside) run.stands.whole f c t wr.cache;
          stack = ap {B = List ℕ} (λ r. e ∷ r) wr.stack ∙ sym st.pushed.stack;
          marks = push_marks f c w w' p.depth e s.marked wr.cache st wr.marks;
          counts_are = counts_written a s.items wr.counts_are;
          bytes_are = bytes_written a s.items wr.bytes_are;
        }

    module _ (m : Measure) (stands : StandsFor m file w out p h.0 e i) where
      value_same : (f : File) (c : Cache) (s : Written) → Tables f w → AtomsThere file f w → Writes f w out p.depth p.counts c s
          → goes_on m c (length out) (parse (unfolded f h.0) ∷ todo_of f w p.opens) s ≡ goes_on m c (length out) (todo_of f w' p.opens) (with_value c s)
      value_same f c s t th wr =
          let k = todo_of f w p.opens in
          stands f c s t th wr k
          ∙ ap (λ (x : ℕ). and_then (and_then (put_if x i s) (λ v. done (push c e v))) (goes_on m c (length out) k))
          (whole_fits (length out) k s.items i whole (omega (arith, (put_there a).fits, size_written wr)))
          ∙ ap (λ (j : List Todo). goes_on m c (length out) j (with_value c s)) (sym (todo_stays w w' beside p.opens p.depth 0 run.stands f))

      value_turns : Turns m file w w' out out' (Parse p h) (Close after)
      unfolding after
      value_turns =
          record {
            fine =
                running_more a run
                (standing_stays w w' beside p.opens p.depth 0 run.stands (p.depth + 1) 1 st.pushed.stacked (omega arith));
            only = beside_only w w' beside;
            grows = omega (arith, (put_there a).end);
            before = taken_before a;
            leads = λ f c s t th wr. record { last = with_value c s; writes = value_writes f c s t wr; same = value_same f c s t th wr };
          }

    value_falls : Falls (length out) (Parse p h) (Close after)
    unfolding after
    value_falls = omega (arith, (put_there a).end, (put_there a).fits, run.stands.few_opens)

  lacks_turns : length out < p.counts.size + length (item_bytes i) → (m : Measure) → StandsFor m file w out p h.0 e i
      → Turns m file w w out out (Parse p h) (Refused add_error.OutputFull p)
  lacks_turns q m stands =
      record {
        fine = run;
        only = only_same w;
        grows = omega arith;
        before = refl;
        leads = λ f c s t th wr.
            let k = todo_of f w p.opens in
            record {
              last = s;
              writes = wr;
              same =
                  stands f c s t th wr k
                  ∙ ap (λ (x : ℕ). and_then (and_then (put_if x i s) (λ v. done (push c e v))) (goes_on m c (length out) k))
                  (whole_lacks (length out) k s.items i whole (omega (arith, size_written wr)));
            };
      }

  pub value_after : {path : code.Option ℕ} → ((m : Measure) → FindsIn m w w p.depth h.0 e path → StandsFor m file w out p h.0 e i)
      → (x : Result Counts OutputFull) (r : Next) → ItemPut out out' p.counts i x → Pushes w w' p e x r → TurnsFound file w w' out out' p h e path r
  unfolding after
  value_after {path} stands (Ok n) r a q =
      subst (λ (y : Next). TurnsFound file w w' out out' p h e path y) (sym q.0)
      (λ m fi. value_turns n a q.1 m (stands m fi), value_falls n a q.1)
  value_after {path} stands (Err y) r a q =
      let n = put_none out out' p.counts.size (item_bytes i) a.bytes in
      subst (λ (y : Next). TurnsFound file w w' out out' p h e path y) (sym q.0) (
        λ m fi.
            subst (λ (x : List ℕ). Turns m file w x out out' (Parse p h) (Refused add_error.OutputFull p)) (sym q.1)
            (subst (λ (x : List ℕ). Turns m file w w out x (Parse p h) (Refused add_error.OutputFull p)) (sym n.1) (lacks_turns n.0 m (stands m fi))),
        omega arith,
      )

-- ---- which item: what was found

-- The search of the definitions gives what was found.
pub found_is : {m : Measure} {w out : List ℕ} {d h e : ℕ} {path : code.Option ℕ} {counts : Counts} {f : File} {c : Cache} {s : Written} {x : ℕ}
    → FindsIn m w w d h e path → Tables f w → Writes f w out d counts c s → x ≡ e → find_in (measure_of m) c s.marked s.stack h x ≡ steps_of w path
found_is {m} {h = h} {e = e} {f = f} {c = c} {s = s} finds t wr q =
    ap (λ (y : ℕ). find_in (measure_of m) c s.marked s.stack h y) q ∙ ap (λ (st : List ℕ). find_in (measure_of m) c s.marked st h e) wr.stack
    ∙ finds.answer f c s.marked t wr.cache wr.marks

module _ {w out : List ℕ} {p : Place} {h e : ℕ} {path : code.Option ℕ} (fo : Found w out p h e path) {f : File} {c : Cache} {s : Written}
    (t : Tables f w) (wr : Writes f w out p.depth p.counts c s) where
  pub leaf_there : is_atom (node_of h) ≡ true → unfolded f h ≡ leaf h (bytes_named f (node_of h))
  leaf_there a = is_leaf w h fo.inner a f t

  pub atom_is : is_atom (node_of h) ≡ true → atom_entry c (bytes_named f (node_of h)) ≡ e
  atom_is a = (fo.entry.of_atom a).is f c t wr.cache

  pub pair_is : (i : ℕ) → node_of h ≡ pair i → pair_entry c i ≡ e
  pair_is i q = (fo.entry.of_pair i q).is f c t wr.cache

-- ---- a reference

module _ (file : List ℕ) {w out : List ℕ} {p : Place} {h e slot : ℕ} (fo : Found w out p h e (Some slot)) (steps : List Bool) (is : path_at w slot ≡ steps ++ true ∷ []) where
  pub reference_stands : (m : Measure) → FindsIn m w w p.depth h e (Some slot) → StandsFor m file w out p h e (reference_item steps)
  reference_stands m finds f c s t th wr k = go (is_atom (node_of h)) refl
    where
      whole : ℕ → session.Outcome
      whole x = and_then (put_whole (find_in (measure_of m)) (room_in (length out)) c k x (reference_item steps) s) (goes_on m c (length out) k)

      found : {x : ℕ} → x ≡ e → find_in (measure_of m) c s.marked s.stack h x ≡ some steps
      found q =
          found_is finds t wr q ∙ ap {B = Option (List Bool)} (λ b. some (without_terminator b)) is ∙ ap {B = Option (List Bool)} some (without_end steps)

      go : (b : Bool) → is_atom (node_of h) ≡ b → goes_on m c (length out) (parse (unfolded f h) ∷ k) s ≡ whole e
      go true a =
          let bs = bytes_named f (node_of h) in
          let q = atom_is fo t wr a in
          ap (λ (u : Unfolded). goes_on m c (length out) (parse u ∷ k) s) (leaf_there fo t wr a)
          ∙ turn_atom_ref (find_in (measure_of m)) (room_in (length out)) c h bs k s steps (found q)
          ∙ ap whole q
      go false a =
          let i = index_of (node_of h) in
          let n = names_pair w (at w PAIR_COUNT) h fo.names a in
          let q = pair_is fo t wr i n in
          let z = is_pair_handle h i n in
          ap (λ (u : Unfolded). goes_on m c (length out) (parse u ∷ k) s) (is_node w h i fo.running.stands.whole fo.names fo.inner n f t)
          ∙ turn_pair_ref (find_in (measure_of m)) (room_in (length out)) c i _ _ k s steps
          (ap (λ (g : ℕ). find_in (measure_of m) c s.marked s.stack g (pair_entry c i)) (sym z) ∙ found q)
          ∙ ap whole q

-- ---- an atom in full

module _ (file : List ℕ) {w out : List ℕ} {p : Place} {h e : ℕ} (fo : Found w out p h e None) (a : is_atom (node_of h) ≡ true) (bytes : List ℕ)
    (are : (f : File) → Tables f w → AtomsThere file f w → bytes_named f (node_of h) ≡ bytes) where
  pub atom_stands : (m : Measure) → FindsIn m w w p.depth h e None → StandsFor m file w out p h e (atom_item bytes)
  atom_stands m finds f c s t th wr k =
      let bs = bytes_named f (node_of h) in
      let q = atom_is fo t wr a in
      ap (λ (u : Unfolded). goes_on m c (length out) (parse u ∷ k) s) (leaf_there fo t wr a)
      ∙ turn_atom (find_in (measure_of m)) (room_in (length out)) c h bs k s (found_is finds t wr q)
      ∙ ap (λ (x : ℕ). and_then (put_whole (find_in (measure_of m)) (room_in (length out)) c k x (atom_item bs) s) (goes_on m c (length out) k)) q
      ∙ ap (λ (b : List ℕ). and_then (put_whole (find_in (measure_of m)) (room_in (length out)) c k e (atom_item b) s) (goes_on m c (length out) k)) (are f t th)

-- ---- what `refer` and `write_full` leave

module _ {w w' out out' : List ℕ} {p : Place} {h : NodePtr} {e : ℕ} (len : length w' ≡ length w) (x : Result Counts OutputFull) {r : Next} (pu : Pushes w w' p e x r) where
  pub refer_turns : {slot : ℕ} → Found w out p h.0 e (Some slot)
      → ((path : List Bool) → path_at w slot ≡ path ++ true ∷ [] → ItemPut out out' p.counts (reference_item path) x)
      → (file : List ℕ) → TurnsFound file w w' out out' p h e (Some slot) r
  refer_turns fo a file =
      let en = fo.ready.1 in
      value_after file w w' out out' p h e (reference_item en.steps) fo.running tt (omega arith) len
      (reference_stands file fo en.steps en.ends) x r (a en.steps en.ends) pu

  pub atom_turns : {file : List ℕ} → Found w out p h.0 e None → is_atom (node_of h.0) ≡ true → AtomPut file w h.0 out out' p.counts x
      → TurnsFound file w w' out out' p h e None r
  atom_turns {file} fo a b =
      value_after file w w' out out' p h e (atom_item b.bytes) fo.running tt (atom_byte b.bytes b.short) len
      (atom_stands file fo a b.bytes b.are) x r b.answer pu
