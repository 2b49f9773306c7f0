-- Lemmas on lists read by number, on open places, and on plugging every open place at once.
use Rattle.std.specs.Prelude.{◌≡◌, refl, ◌⊎◌, List, [], ◌∷◌, ◌++◌, map, Bool, true, false, ℕ, zero, suc, ◌+◌, ◌≤◌, length, take}
use Rattle.std.proofs.Common.{sym, ap, subst, inl, inr, arith}
use Rattle.std.proofs.Math.Option.{Option, none, some, none-ne-some, some-injective}
use Rattle.words.specs.Choice.{clash}
use Rattle.spec_reading.specs.Tree.{Tree, place, atom, cons, pick}
use Rattle.spec_session.specs.Filling.{fill, or_stays, fill_all}
use Rattle.spec_session.specs.Items.{full_size}
use Rattle.spec_session.specs.Premises.{opens}
use Rattle.spec_session.specs.Trees.{nth}

-- ## Lists

pub nth_append : {A : Type 0} (l m : List A) (e : ℕ) (v : A) → nth l e ≡ some v → nth (l ++ m) e ≡ some v
nth_append [] m e v h = cc
nth_append (x ∷ l) m zero v h = h
nth_append (x ∷ l) m (suc e) v h = nth_append l m e v h

pub nth_end : {A : Type 0} (l : List A) (v : A) → nth (l ++ v ∷ []) (length l) ≡ some v
nth_end [] v = refl
nth_end (x ∷ l) v = nth_end l v

pub nth_map : {A B : Type 0} (f : A → B) (l : List A) (e : ℕ) (v : A) → nth l e ≡ some v → nth (map f l) e ≡ some (f v)
nth_map f [] e v h = cc
nth_map f (x ∷ l) zero v h = let q : x ≡ v = cc in rw q
nth_map f (x ∷ l) (suc e) v h = nth_map f l e v h

-- Two lists of one length: what stands at a place of the second, with what stands before that place in the first. With one more at the end of both.
pub both_more : {A B : Type 0} (P : List A → B → Type 0) (xs : List A) (bs : List B) (a : A) (b : B) → length bs ≡ length xs
    → ((i : ℕ) (u : B) → nth bs i ≡ some u → P (take i xs) u) → P xs b → (i : ℕ) (u : B) → nth (bs ++ b ∷ []) i ≡ some u → P (take i (xs ++ a ∷ [])) u
both_more P [] [] a b l f g zero u q = subst (P []) (some-injective b u q) g
both_more P [] [] a b l f g (suc i) u q = absurd (none-ne-some u q)
both_more P [] (y ∷ bs) a b l f g i u q = absurd (omega arith)
both_more P (x ∷ xs) [] a b l f g i u q = absurd (omega arith)
both_more P (x ∷ xs) (y ∷ bs) a b l f g zero u q = f 0 u q
both_more P (x ∷ xs) (y ∷ bs) a b l f g (suc i) u q = both_more (λ m. P (x ∷ m)) xs bs a b (omega arith) (λ j v p. f (suc j) v p) g i u q

-- And of the first few of both.
pub both_fewer : {A B : Type 0} (P : List A → B → Type 0) (n : ℕ) (xs : List A) (bs : List B) → length bs ≡ length xs
    → ((i : ℕ) (u : B) → nth bs i ≡ some u → P (take i xs) u) → (i : ℕ) (u : B) → nth (take n bs) i ≡ some u → P (take i (take n xs)) u
both_fewer P zero xs [] l f i u q = absurd (none-ne-some u q)
both_fewer P zero xs (y ∷ bs) l f i u q = absurd (none-ne-some u q)
both_fewer P (suc n) xs [] l f i u q = absurd (none-ne-some u q)
both_fewer P (suc n) [] (y ∷ bs) l f i u q = absurd (omega arith)
both_fewer P (suc n) (x ∷ xs) (y ∷ bs) l f zero u q = f 0 u q
both_fewer P (suc n) (x ∷ xs) (y ∷ bs) l f (suc i) u q = both_fewer (λ m. P (x ∷ m)) n xs bs (omega arith) (λ j v p. f (suc j) v p) i u q

-- ## Open places

-- The tree t at every open place.
abbrev pub plug : Tree → Tree → Tree
plug t place = t
plug t (atom bs) = atom bs
plug t (cons l r) = cons (plug t l) (plug t r)

pub plug_closed : (t p : Tree) → opens p ≡ 0 → plug t p ≡ p
plug_closed t place h = clash cc
plug_closed t (atom bs) h = refl
plug_closed t (cons l r) h = cc (plug_closed t l (omega arith), plug_closed t r (omega arith))

pub fill_closed : (t p : Tree) → opens p ≡ 0 → fill t p ≡ none
fill_closed t place h = clash cc
fill_closed t (atom bs) h = refl
fill_closed t (cons l r) h = rw (fill_closed t l (omega arith), fill_closed t r (omega arith))

-- With no place open every add is refused.
pub fill_all_closed : (ts : List Tree) (p : Tree) → opens p ≡ 0 → fill_all ts p ≡ p
fill_all_closed [] p h = refl
fill_all_closed (t ∷ ts) p h = subst (λ (o : Option Tree). fill_all ts (or_stays o p) ≡ p) (sym (fill_closed t p h)) (fill_all_closed ts p h)

pub fill_all_append : (ts us : List Tree) (p : Tree) → fill_all (ts ++ us) p ≡ fill_all us (fill_all ts p)
fill_all_append [] us p = refl
fill_all_append (t ∷ ts) us p = fill_all_append ts us (or_stays (fill t p) p)

pub one_of : (a b : ℕ) → a + b ≡ 1 → ((a ≡ 1) × (b ≡ 0)) ⊎ ((a ≡ 0) × (b ≡ 1))
one_of zero b h = inr (refl, omega arith)
one_of (suc a) b h = inl (omega arith, omega arith)

-- With one open place, the first is the only one.
pub fill_plug : (t p : Tree) → opens p ≡ 1 → fill t p ≡ some (plug t p)
fill_plug t place h = refl
fill_plug t (atom bs) h = clash cc
fill_plug t (cons l r) h = go (one_of (opens l) (opens r) h) (fill_plug t l) (fill_plug t r)
  where
    go : ((opens l ≡ 1) × (opens r ≡ 0)) ⊎ ((opens l ≡ 0) × (opens r ≡ 1))
        → (opens l ≡ 1 → fill t l ≡ some (plug t l)) → (opens r ≡ 1 → fill t r ≡ some (plug t r))
        → fill t (cons l r) ≡ some (cons (plug t l) (plug t r))
    go (inl h) fl fr = rw (fl h.0, plug_closed t r h.1)
    go (inr h) fl fr = rw (fill_closed t l h.0, fr h.1, plug_closed t l h.0)

pub opens_plug : (t p : Tree) → opens p ≡ 1 → opens (plug t p) ≡ opens t
opens_plug t place h = refl
opens_plug t (atom bs) h = clash cc
opens_plug t (cons l r) h = go (one_of (opens l) (opens r) h) (opens_plug t l) (opens_plug t r)
  where
    go : ((opens l ≡ 1) × (opens r ≡ 0)) ⊎ ((opens l ≡ 0) × (opens r ≡ 1))
        → (opens l ≡ 1 → opens (plug t l) ≡ opens t) → (opens r ≡ 1 → opens (plug t r) ≡ opens t)
        → opens (plug t l) + opens (plug t r) ≡ opens t
    go (inl h) fl fr = omega (arith, fl h.0, h.1, ap opens (plug_closed t r h.1))
    go (inr h) fl fr = omega (arith, fr h.1, h.0, ap opens (plug_closed t l h.0))

pub pick_plug : (t : Tree) (side : Bool) (l r : Tree) → pick side (plug t l) (plug t r) ≡ plug t (pick side l r)
pick_plug t false l r = refl
pick_plug t true l r = refl

pub plug_size : (t p : Tree) → full_size p ≤ full_size (plug t p)
plug_size t place = omega arith
plug_size t (atom bs) = omega arith
plug_size t (cons l r) = omega (arith, plug_size t l, plug_size t r)
