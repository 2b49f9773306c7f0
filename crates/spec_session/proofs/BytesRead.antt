-- The bytes of items read as the items: what the plain reader makes of the output is what the reader over items makes of the items.
-- Assumes nothing.
use Prim.Native.Nat.{ℕ, zero, suc, ◌+◌, ◌≤◌}
use Rattle.std.specs.Prelude.{◌≡◌, refl, Bool, List, [], ◌∷◌, ◌++◌, length}
use Rattle.std.proofs.Common.{sym, ap, ◌∙◌, subst, arith}
use Rattle.std.proofs.Math.Bool.{true}
use Rattle.std.proofs.Math.Option.{Option, none, some, bind, none-ne-some, some-injective}
use Rattle.std.proofs.Math.ListN.{length-append}
use Rattle.words.specs.Lists.{All}
use Rattle.atom.specs.Prefix.{encode}
use Rattle.atom.specs.ParseLaws.{parse_nil}
use Rattle.atom.specs.RoundTrip.{read_back}
use Rattle.spec_reading.specs.Tree.{Tree, atom, cons, follow, as_list, lead, referred}
use Rattle.spec_reading.proofs.Blobs.{refused_not_blob}
use Rattle.spec_reading.proofs.GrammarLaws.{atom_step, reference_step}
use Rattle.path.specs.Bytes.{path_bytes}
use Rattle.path.proofs.BytesLaws.{round_trip}
use Rattle.spec_reading.specs.Format.{ParseOp, SExp, Cons, Step, go, stop, accepted, at_end, settle, step, then, run, read, next_item}
use Rattle.spec_reading.specs.Plain.{Plain, plain_values, read_plain}
use Rattle.spec_session.specs.Items.{Item, cons_item, atom_item, reference_item, bytes_or_none, output, Op, want, make, Reading, collapse, feed, whole, read_items}

-- An item that has bytes: no atom of it is too long for a prefix.
abbrev pub Formed : Item → Type 0
Formed cons_item = Unit {0}
Formed (atom_item bytes) = (b : List ℕ) × (encode bytes ≡ some b)
Formed (reference_item path) = (b : List ℕ) × (encode (path_bytes (path ++ true ∷ [])) ≡ some b)

abbrev ops_of : List Op → List ParseOp
ops_of [] = []
ops_of (want ∷ k) = SExp ∷ ops_of k
ops_of (make ∷ k) = Cons ∷ ops_of k

abbrev kept : List Tree → ℕ → Plain
kept vs m = record { trees = vs; made = m }

-- ---- after a value

-- Where the reader stands when the reader over items stands at r. One that waits for a value to make a pair of is never met.
abbrev stands : List ℕ → ℕ → Reading → Step Plain
stands rest m ([], vs) = at_end plain_values rest (kept vs m)
stands rest m (want ∷ k, vs) = go (record { rest = rest; ops = ops_of k; values = kept vs m })
stands rest m (make ∷ k, vs) = stop 0

abbrev Moves : Reading → Type 0
Moves ([], vs) = Unit {0}
Moves (want ∷ k, vs) = Unit {0}
Moves (make ∷ k, vs) = ⊥

settled : (k : List Op) (vs : List Tree) (m : ℕ) (rest : List ℕ) → Moves (collapse k vs)
    → (n : ℕ) × (settle plain_values rest (ops_of k) (kept vs m) ≡ stands rest n (collapse k vs))
settled [] vs m rest h = (m, refl)
settled (want ∷ k) vs m rest h = (m, refl)
settled (make ∷ k) [] m rest h = absurd h
settled (make ∷ k) (b ∷ []) m rest h = absurd h
settled (make ∷ k) (b ∷ a ∷ vs) m rest h = settled k (cons a b ∷ vs) (m + 2) rest h

-- ---- the items one after the other

-- With nothing to read, everything is read or nothing can be.
stuck : (i : Item) (is : List Item) (vs : List Tree) (t : Tree) → bind (feed (i ∷ is) ([], vs)) (λ r. whole r.0 r.1) ≡ some t → ⊥
unfolding bind
stuck i is vs t e = none-ne-some t e

waits : (is : List Item) (k : List Op) (vs : List Tree) (t : Tree) → bind (feed is (make ∷ k, vs)) (λ r. whole r.0 r.1) ≡ some t → ⊥
unfolding bind
waits [] k vs t e = none-ne-some t e
waits (i ∷ is) k vs t e = none-ne-some t e

moves : (is : List Item) (r : Reading) (t : Tree) → bind (feed is r) (λ r. whole r.0 r.1) ≡ some t → Moves r
moves is ([], vs) t e = tt
moves is (want ∷ k, vs) t e = tt
moves is (make ∷ k, vs) t e = waits is k vs t e

one_value : (vs : List Tree) (t : Tree) → whole [] vs ≡ some t → vs ≡ t ∷ []
one_value [] t e = absurd (none-ne-some t e)
one_value (v ∷ []) t e = ap (λ (x : Tree). x ∷ []) (some-injective v t e)
one_value (v ∷ a ∷ vs) t e = absurd (none-ne-some t e)

-- The reader from these items on, after what is left to do is k.
abbrev Goes : List Item → Type 0
Goes is =
    (k : List Op) (vs : List Tree) (m n : ℕ) (t : Tree) → All Formed is → bind (feed is (want ∷ k, vs)) (λ r. whole r.0 r.1) ≡ some t
    → length (output is) ≤ n
    → (c : ℕ) × (run plain_values n (record { rest = output is; ops = ops_of k; values = kept vs m }) ≡ accepted (kept (t ∷ []) c))

goes_on : (is : List Item) → Goes is → (r : Reading) (m n : ℕ) (t : Tree) → All Formed is → bind (feed is r) (λ r. whole r.0 r.1) ≡ some t
    → length (output is) ≤ n → (c : ℕ) × (then plain_values (stands (output is) m r) (λ b. run plain_values n b) ≡ accepted (kept (t ∷ []) c))
unfolding bind
goes_on is ih (want ∷ k, vs) m n t f e h = ih k vs m n t f e h
goes_on is ih (make ∷ k, vs) m n t f e h = absurd (waits is k vs t e)
goes_on [] ih ([], vs) m n t f e h = (m, ap (λ (l : List Tree). accepted (kept l m)) (one_value vs t e))
goes_on (i ∷ is) ih ([], vs) m n t f e h = absurd (stuck i is vs t e)

-- After a value v.
valued : (is : List Item) → Goes is → (k : List Op) (v : Tree) (vs : List Tree) (m n : ℕ) (t : Tree) → All Formed is
    → bind (feed is (collapse k (v ∷ vs))) (λ r. whole r.0 r.1) ≡ some t → length (output is) ≤ n
    → (c : ℕ) × (then plain_values (settle plain_values (output is) (ops_of k) (kept (v ∷ vs) m)) (λ b. run plain_values n b) ≡ accepted (kept (t ∷ []) c))
valued is ih k v vs m n t f e h =
    let s = settled k (v ∷ vs) m (output is) (moves is (collapse k (v ∷ vs)) t e) in
    let g = goes_on is ih (collapse k (v ∷ vs)) s.0 n t f e h in
    (g.0, ap (λ (x : Step Plain). then plain_values x (λ b. run plain_values n b)) s.1 ∙ g.1)

-- ---- each kind of item

pub nonempty : (a b : List ℕ) → encode a ≡ some b → 1 ≤ length b
nonempty a [] e = let r = read_back a [] [] e in refused_not_blob 14 r.start 0 (sym parse_nil ∙ r.parsed_is)
nonempty a (x ∷ b) e = omega arith

-- Where a step comes to the value v, the reader goes on with it.
stepped : (rest : List ℕ) (is : List Item) → Goes is → (k : List Op) (v : Tree) (vs : List Tree) (m n : ℕ) (t : Tree) → All Formed is
    → next_item plain_values rest (ops_of k) (kept vs m) ≡ settle plain_values (output is) (ops_of k) (kept (v ∷ vs) (m + 1))
    → bind (feed is (collapse k (v ∷ vs))) (λ r. whole r.0 r.1) ≡ some t → length (output is) ≤ n
    → (c : ℕ) × (run plain_values (suc n) (record { rest = rest; ops = ops_of k; values = kept vs m }) ≡ accepted (kept (t ∷ []) c))
unfolding run step
stepped rest is ih k v vs m n t f q e h =
    let g = valued is ih k v vs (m + 1) n t f e h in
    (g.0, ap (λ (x : Step Plain). then plain_values x (λ b. run plain_values n b)) q ∙ g.1)

path_referred : (path : List Bool) (vs : List Tree) (v : Tree) → follow path (as_list vs) ≡ some v → referred (path_bytes (path ++ true ∷ [])) vs ≡ some v
unfolding referred
path_referred path vs v q = ap (λ (o : Option (List Bool)). lead o (as_list vs)) (round_trip path) ∙ q

abbrev Reaches : List ℕ → List Op → List Tree → ℕ → ℕ → Tree → Type 0
Reaches rest k vs m n t = (c : ℕ) × (run plain_values n (record { rest = rest; ops = ops_of k; values = kept vs m }) ≡ accepted (kept (t ∷ []) c))

cons_case : (is : List Item) → Goes is → (k : List Op) (vs : List Tree) (m n : ℕ) (t : Tree) → All Formed is
    → bind (feed is (want ∷ want ∷ make ∷ k, vs)) (λ r. whole r.0 r.1) ≡ some t → length (output is) ≤ n → Reaches (0xff ∷ output is) k vs m (suc n) t
unfolding run step
cons_case is ih k vs m n t f e h = ih (want ∷ make ∷ k) vs m n t f e h

module _ (is : List Item) (ih : Goes is) (k : List Op) (vs : List Tree) (m : ℕ) (t : Tree) (f : All Formed is) where
  atom_case : (a b : List ℕ) → encode a ≡ some b → (n : ℕ) → bind (feed is (collapse k (atom a ∷ vs))) (λ r. whole r.0 r.1) ≡ some t
      → length (b ++ output is) ≤ n → Reaches (b ++ output is) k vs m n t
  atom_case a b q zero e l = absurd (omega (arith, nonempty a b q, length-append b (output is)))
  atom_case a b q (suc n) e l =
      stepped (b ++ output is) is ih k (atom a) vs m n t f (atom_step b (output is) (ops_of k) vs m a q) e (omega (arith, nonempty a b q, length-append b (output is)))

  path_case : (path : List Bool) (b : List ℕ) → encode (path_bytes (path ++ true ∷ [])) ≡ some b → (o : Option Tree) → follow path (as_list vs) ≡ o
      → bind (bind (bind o (λ v. some (collapse k (v ∷ vs)))) (feed is)) (λ r. whole r.0 r.1) ≡ some t
      → (n : ℕ) → length (0xfe ∷ (b ++ output is)) ≤ n → Reaches (0xfe ∷ (b ++ output is)) k vs m n t
  unfolding bind
  path_case path b q none g e n l = absurd (none-ne-some t e)
  path_case path b q (some v) g e zero l = absurd (omega arith)
  path_case path b q (some v) g e (suc n) l =
      stepped (0xfe ∷ (b ++ output is)) is ih k v vs m n t f
      (reference_step b (output is) (ops_of k) vs m (path_bytes (path ++ true ∷ [])) v q (path_referred path vs v g)) e
      (omega (arith, length-append b (output is)))

pub goes : (is : List Item) → Goes is
unfolding bind
goes [] k vs m n t f e h = absurd (none-ne-some t e)
goes (cons_item ∷ is) k vs m zero t f e h = absurd (omega arith)
goes (cons_item ∷ is) k vs m (suc n) t f e h = cons_case is (goes is) k vs m n t f.1 e (omega arith)
goes (atom_item a ∷ is) k vs m n t f e h =
    let q = f.0.1 in
    subst (λ (o : Option (List ℕ)). Reaches (bytes_or_none o ++ output is) k vs m n t) (sym q)
    (atom_case is (goes is) k vs m t f.1 a f.0.0 q n e (subst (λ (o : Option (List ℕ)). length (bytes_or_none o ++ output is) ≤ n) q h))
goes (reference_item path ∷ is) k vs m n t f e h =
    let q = f.0.1 in
    subst (λ (o : Option (List ℕ)). Reaches (0xfe ∷ (bytes_or_none o ++ output is)) k vs m n t) (sym q)
    (path_case is (goes is) k vs m t f.1 path f.0.0 q (follow path (as_list vs)) refl e n
    (subst (λ (o : Option (List ℕ)). length (0xfe ∷ (bytes_or_none o ++ output is)) ≤ n) q h))

-- THE BYTES READ AS THE ITEMS: where the items read as the tree t, the plain reader accepts their bytes, all of them, with t.
pub bytes_read : (items : List Item) (t : Tree) → All Formed items → read_items items ≡ some t → (c : ℕ) × (read_plain (output items) ≡ accepted (kept (t ∷ []) c))
unfolding read
bytes_read items t f e = goes items [] [] 0 (length (output items)) t f e (omega arith)
