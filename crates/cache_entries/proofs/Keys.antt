-- A key is found among entries where its two words are found among the rows.
-- Assumes nothing.
use Prim.Native.Nat.{ℕ, ◌+◌, ◌%◌, ◌^◌, ◌≤◌, ◌<◌}
use mathlib.Core.Path.{◌≡◌, refl, sym, ap, ◌∙◌}
use mathlib.Core.Bool.{Bool, true, false, ◌&&◌}
use mathlib.Core.List.{List, [], ◌∷◌, map}
use mathlib.Core.Option.{none}
use native.Mathlib.Omega.{arith}
use native.Mathlib.Decide.{ℕ_discrete}
use lib.Dec.{eqb}
use lib.ListN.{get_or}
use borrow.Author.Tests.{eq-eqb, ne_eqb}
use Rattle.words.specs.Lists.{All, all_of, same, same_refl, same_eq}
use Rattle.words.specs.Words.{at}
use Rattle.allocator.specs.Handle.{Node, pair, listed_atom, small_atom, unknown, node_of, index_of}
use Rattle.allocator.specs.HandleLaws.{index_of_handle, same_node}
use Rattle.allocator.specs.SmallAtomLaws.{same_small_bytes, listed_not_small}
use Rattle.spec_session.specs.File.{File}
use Rattle.spec_session.specs.Cache.{Key, sentinel_key, atom_key, pair_key, same_key, find_key}
use Rattle.work_layout.specs.Layout.{USED, LEFT, RIGHT, ENTRIES}
use Rattle.work_layout.specs.Rows.{Row, row_of, rows_of}
use Rattle.cache_entries.specs.table.Effects.{find_row}
use Rattle.cache_entries.specs.Meaning.{ATOM_KEY, SENTINEL_KEY, bytes_named, key_of, entry_of, first_same, Tables, FirstOf, KeyOK, sentinel_words, atom_words, pair_words, Whole}
use Rattle.cache_entries.proofs.Lift.{no_row, length_rows, row_at}

-- ---- the key of two words

pub key_sentinel : (f : File) (r : ℕ) → key_of f SENTINEL_KEY r ≡ sentinel_key
key_sentinel f r = refl

pub key_atom : (f : File) (r : ℕ) → key_of f ATOM_KEY r ≡ atom_key (bytes_named f (node_of r))
key_atom f r = refl

pub key_pair : (f : File) (l r : ℕ) → l < ENTRIES → key_of f l r ≡ pair_key l r
key_pair f l r h = rw (ne_eqb l SENTINEL_KEY (λ q. omega arith), ne_eqb l ATOM_KEY (λ q. omega arith))

-- ---- atoms that stand for all with the same bytes

module _ (f : File) (w : List ℕ) (t : Tables f w) where
  -- A small value has 26 bits.
  small_low : (h v : ℕ) → node_of h ≡ small_atom v → v < 2 ^ 26
  small_low h v e =
      let i : index_of (small_atom v) ≡ h % 2 ^ 26 = ap index_of (sym e) ∙ index_of_handle h in
      omega arith

  -- Two such handles with the same bytes are the same.
  same_first : (g h : ℕ) (m n : Node) → node_of g ≡ m → node_of h ≡ n → FirstOf w m → FirstOf w n → bytes_named f m ≡ bytes_named f n → m ≡ n
  same_first g h (pair i) n e q a b s = absurd a
  same_first g h (listed_atom i) (pair j) e q a b s = absurd b
  same_first g h (listed_atom i) (listed_atom j) e q a b s =
      let c = t.atom_count in
      let x : i ≡ first_same (get_or f.atoms i []) f.atoms = sym a.1 ∙ t.firsts i (omega (arith, a.0)) in
      let y : j ≡ first_same (get_or f.atoms j []) f.atoms = sym b.1 ∙ t.firsts j (omega (arith, b.0)) in
      ap listed_atom (x ∙ ap (λ (u : List ℕ). first_same u f.atoms) s ∙ sym y)
  same_first g h (listed_atom i) (small_atom v) e q a b s =
      let c = t.atom_count in
      absurd (listed_not_small (get_or f.atoms i []) v (t.listed i (omega (arith, a.0))) (small_low h v q) (sym s))
  same_first g h (listed_atom i) (unknown k j) e q a b s = absurd b
  same_first g h (small_atom u) (pair j) e q a b s = absurd b
  same_first g h (small_atom u) (listed_atom j) e q a b s =
      let c = t.atom_count in
      absurd (listed_not_small (get_or f.atoms j []) u (t.listed j (omega (arith, b.0))) (small_low g u e) s)
  same_first g h (small_atom u) (small_atom v) e q a b s = ap small_atom (same_small_bytes u v s)
  same_first g h (small_atom u) (unknown k j) e q a b s = absurd b
  same_first g h (unknown k i) n e q a b s = absurd a

  same_bytes : (g h : ℕ) → FirstOf w (node_of g) → FirstOf w (node_of h)
      → same (bytes_named f (node_of g)) (bytes_named f (node_of h)) ≡ eqb h g
  same_bytes g h a b = go (ℕ_discrete h g)
    where
      other : (c : Bool) → same (bytes_named f (node_of g)) (bytes_named f (node_of h)) ≡ c → (h ≡ g → ⊥) → c ≡ eqb h g
      other true e q =
          absurd (q (sym (same_node g h (same_first g h (node_of g) (node_of h) refl refl a b (same_eq (bytes_named f (node_of g)) (bytes_named f (node_of h)) e)))))
      other false e q = sym (ne_eqb h g q)

      go : Dec (h ≡ g) → same (bytes_named f (node_of g)) (bytes_named f (node_of h)) ≡ eqb h g
      go (yes q) =
          ap (λ (x : ℕ). same (bytes_named f (node_of g)) (bytes_named f (node_of x))) q ∙ same_refl (bytes_named f (node_of g)) ∙ sym (eq-eqb h g q)
      go (no q) = other (same (bytes_named f (node_of g)) (bytes_named f (node_of h))) refl q

  -- ---- two keys are the same where their words are

  atom_same : (e l r h : ℕ) → e ≤ ENTRIES → KeyOK w e l r → FirstOf w (node_of h)
      → same_key (key_of f ATOM_KEY h) (key_of f l r) ≡ (eqb l ATOM_KEY && eqb r h)
  atom_same e l r h n (sentinel_words p q) b = rw p refl
  atom_same e l r h n (atom_words p a) b = rw p (same_bytes h r b a)
  atom_same e l r h n (pair_words p q) b = rw (key_pair f l r (omega arith), ne_eqb l ATOM_KEY (λ z. omega arith))

  pair_same : (e l r a b : ℕ) → e ≤ ENTRIES → KeyOK w e l r → a < ENTRIES → same_key (key_of f a b) (key_of f l r) ≡ (eqb l a && eqb r b)
  pair_same e l r a b n (sentinel_words p q) h = rw (p, key_pair f a b h, ne_eqb SENTINEL_KEY a (λ z. omega arith))
  pair_same e l r a b n (atom_words p q) h = rw (p, key_pair f a b h, ne_eqb ATOM_KEY a (λ z. omega arith))
  pair_same e l r a b n (pair_words p q) h = rw (key_pair f l r (omega arith), key_pair f a b h) (alike a l b r)
    where
      turned : (x y : ℕ) → eqb x y ≡ eqb y x
      turned x y = go (ℕ_discrete x y)
        where
          go : Dec (x ≡ y) → eqb x y ≡ eqb y x
          go (yes z) = eq-eqb x y z ∙ sym (eq-eqb y x (sym z))
          go (no z) = ne_eqb x y z ∙ sym (ne_eqb y x (λ u. z (sym u)))

      alike : (a l b r : ℕ) → (eqb a l && eqb b r) ≡ (eqb l a && eqb r b)
      alike a l b r = rw (turned a l, turned b r)

  -- ---- the lookup

  -- The row's key is this key just where its words are these words.
  abbrev Alike : Key → (l r : ℕ) → Row → Type 0
  Alike k l r x = same_key k (key_of f x.left x.right) ≡ (eqb x.left l && eqb x.right r)

  find_same : (k : Key) (l r : ℕ) (xs : List Row) → All (Alike k l r) xs → find_key k (map (entry_of f) xs) ≡ find_row l r xs
  find_same k l r [] h = refl
  find_same k l r (x ∷ xs) h = rw (h.0, find_same k l r xs h.1)

  module _ (wh : Whole w) where
    rows_alike : (k : Key) (l r : ℕ) → ((e : ℕ) → e < at w USED → Alike k l r (row_of w e)) → find_key k (map (entry_of f) (rows_of w)) ≡ find_row l r (rows_of w)
    rows_alike k l r h =
        find_same k l r (rows_of w)
        (all_of (Alike k l r) (rows_of w) no_row (λ e p. let q : e < at w USED = rw (length_rows w) at p in rw (row_at w e q) (h e q)))

    -- An atom's key is found where its words are ..
    pub find_atom : (h : ℕ) → FirstOf w (node_of h)
        → find_key (atom_key (bytes_named f (node_of h))) (map (entry_of f) (rows_of w)) ≡ find_row ATOM_KEY h (rows_of w)
    find_atom h b =
        ap (λ (k : Key). find_key k (map (entry_of f) (rows_of w))) (sym (key_atom f h))
        ∙ rows_alike (key_of f ATOM_KEY h) ATOM_KEY h
        (λ e p. atom_same e (at w (LEFT + e)) (at w (RIGHT + e)) h (omega (arith, wh.sound.used)) (wh.keys e p) b)

    -- .. and so is a pair's.
    pub find_pair : (a b : ℕ) → a < at w USED → find_key (pair_key a b) (map (entry_of f) (rows_of w)) ≡ find_row a b (rows_of w)
    find_pair a b h =
        let n : a < ENTRIES = omega (arith, wh.sound.used) in
        ap (λ (k : Key). find_key k (map (entry_of f) (rows_of w))) (sym (key_pair f a b n))
        ∙ rows_alike (key_of f a b) a b (λ e p. pair_same e (at w (LEFT + e)) (at w (RIGHT + e)) a b (omega (arith, wh.sound.used)) (wh.keys e p) n)

-- ---- a sentinel's key: no row has it, with a number that no entry has

absent : (l r : ℕ) (xs : List Row) → All (λ (x : Row). (eqb x.left l && eqb x.right r) ≡ false) xs → find_row l r xs ≡ none
absent l r [] h = refl
absent l r (x ∷ xs) h = rw (h.0, absent l r xs h.1)

pub no_sentinel : (w : List ℕ) → Whole w → find_row SENTINEL_KEY (at w USED) (rows_of w) ≡ none
no_sentinel w wh =
    absent SENTINEL_KEY (at w USED) (rows_of w)
    (all_of (λ (x : Row). (eqb x.left SENTINEL_KEY && eqb x.right (at w USED)) ≡ false) (rows_of w) no_row
    (λ e p. let q : e < at w USED = rw (length_rows w) at p in rw (row_at w e q) (go e (at w (LEFT + e)) (at w (RIGHT + e)) q (wh.keys e q))))
  where
    none_of : (b : Bool) → (b && false) ≡ false
    none_of true = refl
    none_of false = refl

    go : (e l r : ℕ) → e < at w USED → KeyOK w e l r → (eqb l SENTINEL_KEY && eqb r (at w USED)) ≡ false
    go e l r q (sentinel_words a b) = rw (ne_eqb r (at w USED) (λ z. omega arith)) (none_of (eqb l SENTINEL_KEY))
    go e l r q (atom_words a b) = rw (a, ne_eqb ATOM_KEY SENTINEL_KEY (λ z. omega arith))
    go e l r q (pair_words a b) = rw (ne_eqb l SENTINEL_KEY (λ z. omega (arith, wh.sound.used)))
