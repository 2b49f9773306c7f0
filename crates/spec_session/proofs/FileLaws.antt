-- What is known of a part of the file that was read: which questions got yes, and which bytes it is.
-- Assumes nothing.
use Rattle.std.specs.Prelude.{ℕ, zero, suc, ◌+◌, ◌-◌, ◌≤◌, ◌<◌, ◌≡◌, refl, Bool, true, false, cond, List, [], ◌∷◌, ◌++◌, leb, ltb, eqb, length, take, drop}
use Rattle.std.proofs.Math.Path.{sym}
use Rattle.std.proofs.Common.{ap, subst, ◌∙◌, arith, length-append, length-take}
use Rattle.std.proofs.Math.Option.{Option, none, some}
use Rattle.std.proofs.Math.ListN.{length-drop}
use Rattle.std.proofs.Math.Seq.{drop-drop}
use borrow.Author.Tests.{leb-true, ltb-true, eqb-true}
use Rattle.words.specs.Choice.{clash}
use Rattle.words.specs.Words.{part}
use Rattle.words.specs.BigEndian.{number}
use Rattle.words.specs.Lists.{same}
use Rattle.allocator.specs.Handle.{node_of}
use Rattle.allocator.specs.SmallAtom.{fits_in_small_atom}
use Rattle.spec_session.specs.File.{Got, got, refused, and_then, asked, bytes_of, field, count, version_1, listed, atom, atoms, named, handle}
use Rattle.spec_session.specs.File.{Pair, one_pair, pairs, sentinel, Step, add, restore, forget, quote, take_quote, operand, one_step, steps, File, Limits, mark, after_mark, file}
use Rattle.spec_session.specs.Places.{SentinelNamed, StepIs, StepNamed, step_size}

not_refused : {A : Type 0} (n : ℕ) (a : A) (r : List ℕ) → ◌≡◌ {A = Got A} (refused n) (got a r) → ⊥
not_refused n a r e = clash cc

-- What was read first, where reading went on.
pub record Then {A B : Type 0} (g : Got A) (f : A → List ℕ → Got B) (b : B) (r : List ℕ) : Type 0 where
  pub first : A
  pub rest : List ℕ
  pub first_is : g ≡ got first rest
  pub then_is : f first rest ≡ got b r

pub then_of : {A B : Type 0} (g : Got A) (f : A → List ℕ → Got B) (b : B) (r : List ℕ) → and_then g f ≡ got b r → Then g f b r
then_of (got a s) f b r e = record { first = a; rest = s; first_is = refl; then_is = e }
then_of (refused n) f b r e = absurd (not_refused n b r e)

-- Where reading went on to the end, by what was read first.
pub by_first : {A B : Type 0} {P : Type 0} (g : Got A) (k : A → List ℕ → Got B) (b : B) (r : List ℕ) → and_then g k ≡ got b r
    → ((a : A) (s : List ℕ) → g ≡ got a s → k a s ≡ got b r → P) → P
by_first g k b r e h = let t = then_of g k b r e in h t.first t.rest t.first_is t.then_is

-- A question that let reading go on got yes.
pub asked_of : {A : Type 0} (n : ℕ) (c : Bool) (g : Got A) (a : A) (r : List ℕ) → asked n c g ≡ got a r → (c ≡ true) × (g ≡ got a r)
asked_of n true g a r e = (refl, e)
asked_of n false g a r e = absurd (not_refused n a r e)

pub got_value : {A : Type 0} (a b : A) (r s : List ℕ) → got a r ≡ got b s → a ≡ b
got_value a b r s e = cc

pub got_rest : {A : Type 0} (a b : A) (r s : List ℕ) → got a r ≡ got b s → r ≡ s
got_rest a b r s e = cc

-- A sentinel that was read is one that may stand there.
pub sentinel_named : (a p : ℕ) (rest : List ℕ) (z : Option ℕ) (r : List ℕ) → sentinel a p rest ≡ got z r → SentinelNamed a p z
sentinel_named a p rest z r e =
    let t = then_of (field 4 rest) _ z r e in
    go t.first t.rest (eqb t.first 0xffffffff) t.then_is
  where
    go : (h : ℕ) (s : List ℕ) (b : Bool) → cond b (got none s) (asked 7 (named a p (node_of h)) (got (some h) s)) ≡ got z r → SentinelNamed a p z
    go h s true q = subst (SentinelNamed a p) (got_value none z s r q) tt
    go h s false q =
        let k = asked_of 7 (named a p (node_of h)) (got (some h) s) z r q in
        subst (SentinelNamed a p) (got_value (some h) z s r k.1) k.0

module _ (input : List ℕ) where
  -- The n bytes at a place were read.
  pub record BytesAt (at n : ℕ) (b r : List ℕ) : Type 0 where
    pub there : n ≤ length input - at
    pub is : b ≡ part input at n
    pub rest_is : r ≡ drop (at + n) input

  pub bytes_at : (at n : ℕ) (b r : List ℕ) → bytes_of n (drop at input) ≡ got b r → BytesAt at n b r
  unfolding part
  bytes_at at n b r e =
      let q = asked_of 4 (leb n (length (drop at input))) (got (take n (drop at input)) (drop n (drop at input))) b r e in
      record {
        there = omega (arith, leb-true n (length (drop at input)) q.0, length-drop at input);
        is = sym (got_value (take n (drop at input)) b (drop n (drop at input)) r q.1);
        rest_is = sym (got_rest (take n (drop at input)) b (drop n (drop at input)) r q.1) ∙ drop-drop n at input;
      }

  -- The number of n bytes at a place was read.
  pub record FieldAt (at n v : ℕ) (r : List ℕ) : Type 0 where
    pub there : n ≤ length input - at
    pub is : v ≡ number (part input at n)
    pub rest_is : r ≡ drop (at + n) input

  pub field_at : (at n v : ℕ) (r : List ℕ) → field n (drop at input) ≡ got v r → FieldAt at n v r
  field_at at n v r e =
      let t = then_of (bytes_of n (drop at input)) (λ b s. got (number b) s) v r e in
      let b = bytes_at at n t.first t.rest t.first_is in
      record {
        there = b.there;
        is = sym (got_value (number t.first) v t.rest r t.then_is) ∙ ap number b.is;
        rest_is = sym (got_rest (number t.first) v t.rest r t.then_is) ∙ b.rest_is;
      }

  -- An atom at a place was read.
  pub record AtomAt (at used : ℕ) (b r : List ℕ) : Type 0 where
    pub there : at + 2 + length b ≤ length input
    pub size_is : number (part input at 2) ≡ length b
    pub is : part input (at + 2) (length b) ≡ b
    pub few : used + length b ≤ 32768
    pub listed_is : fits_in_small_atom b ≡ none
    pub rest_is : r ≡ drop (at + 2 + length b) input

  moved : (i j : ℕ) → i ≡ j → drop i input ≡ drop j input
  moved i j e = ap (λ (k : ℕ). drop k input) e

  part_size : (p n : ℕ) → n ≤ length input - p → length (part input p n) ≡ n
  unfolding part
  part_size p n h = simp (length-take, length-drop) (omega arith)

  listed_none : (o : Option ℕ) → listed o ≡ true → o ≡ none
  listed_none none e = refl
  listed_none (some v) e = clash cc

  pub atom_at : (at used : ℕ) (b r : List ℕ) → atom version_1 used (drop at input) ≡ got b r → AtomAt at used b r
  atom_at at used b r e =
      let t = then_of (field 2 (drop at input)) _ b r e in
      let f = field_at at 2 t.first t.rest t.first_is in
      let u = then_of (bytes_of t.first t.rest) _ b r t.then_is in
      let n = bytes_at (at + 2) t.first u.first u.rest (ap (bytes_of t.first) (sym f.rest_is) ∙ u.first_is) in
      let five = asked_of 5 (leb (used + t.first) 32768) (asked 6 (listed (fits_in_small_atom u.first)) (got u.first u.rest)) b r u.then_is in
      let six = asked_of 6 (listed (fits_in_small_atom u.first)) (got u.first u.rest) b r five.1 in
      let same : u.first ≡ b = got_value u.first b u.rest r six.1 in
      let size : length b ≡ t.first = ap length (sym same ∙ n.is) ∙ part_size (at + 2) t.first n.there in
      record {
        there = omega (arith, f.there, n.there);
        size_is = sym f.is ∙ sym size;
        is = ap (part input (at + 2)) size ∙ sym n.is ∙ same;
        few = omega (arith, leb-true (used + t.first) 32768 five.0);
        listed_is = listed_none (fits_in_small_atom b) (ap (λ (x : List ℕ). listed (fits_in_small_atom x)) (sym same) ∙ six.0);
        rest_is = sym (got_rest u.first b u.rest r six.1) ∙ n.rest_is ∙ ap (λ (k : ℕ). drop (at + 2 + k) input) (sym size);
      }

  -- ---- handles

  -- A handle at a place was read, and it names one of so many atoms and pairs, or a small atom.
  pub record HandleAt (atoms pairs at h : ℕ) (r : List ℕ) : Type 0 where
    pub there : at + 4 ≤ length input
    pub is : number (part input at 4) ≡ h
    pub names : named atoms pairs (node_of h) ≡ true
    pub rest_is : r ≡ drop (at + 4) input

  pub handle_at : (a p at h : ℕ) (r : List ℕ) → handle a p (drop at input) ≡ got h r → HandleAt a p at h r
  handle_at a p at h r e =
      let t = then_of (field 4 (drop at input)) _ h r e in
      let f = field_at at 4 t.first t.rest t.first_is in
      let q = asked_of 7 (named a p (node_of t.first)) (got t.first t.rest) h r t.then_is in
      let same : t.first ≡ h = got_value t.first h t.rest r q.1 in
      record {
        there = omega (arith, f.there);
        is = sym f.is ∙ same;
        names = ap (λ (k : ℕ). named a p (node_of k)) (sym same) ∙ q.0;
        rest_is = sym (got_rest t.first h t.rest r q.1) ∙ f.rest_is;
      }

  -- A pair's handles at a place were read.
  pub record PairAt (atoms pairs at : ℕ) (q : Pair) (r : List ℕ) : Type 0 where
    pub there : at + 8 ≤ length input
    pub left_is : number (part input at 4) ≡ q.left
    pub right_is : number (part input (at + 4) 4) ≡ q.right
    pub left_names : named atoms pairs (node_of q.left) ≡ true
    pub right_names : named atoms pairs (node_of q.right) ≡ true
    pub rest_is : r ≡ drop (at + 8) input

  pub pair_at : (a p at : ℕ) (q : Pair) (r : List ℕ) → one_pair a p (drop at input) ≡ got q r → PairAt a p at q r
  pair_at a p at q r e =
      let t = then_of (handle a p (drop at input)) _ q r e in
      let f = handle_at a p at t.first t.rest t.first_is in
      let u = then_of (handle a p t.rest) _ q r t.then_is in
      let g = handle_at a p (at + 4) u.first u.rest (ap (handle a p) (sym f.rest_is) ∙ u.first_is) in
      let same : (record { left = t.first; right = u.first }) ≡ q = got_value _ q u.rest r u.then_is in
      subst (λ (x : Pair). PairAt a p at x r) same
      (record {
        there = omega (arith, g.there);
        left_is = f.is;
        right_is = g.is;
        left_names = f.names;
        right_names = g.names;
        rest_is = sym (got_rest _ q u.rest r u.then_is) ∙ g.rest_is ∙ moved (at + 4 + 4) (at + 8) (omega arith);
      })

  -- ---- steps

  -- A step at a place was read.
  pub record StepAt (atoms pairs done most at : ℕ) (s : Step) (r : List ℕ) : Type 0 where
    pub is : StepIs input at s
    pub names : StepNamed atoms pairs s
    pub few : done < most
    pub rest_is : r ≡ drop (at + step_size s) input

  -- One of two, by a code.
  by_code : {A : Type 0} (P : Type 0) (code n : ℕ) (x y : Got A) (a : A) (r : List ℕ) → (code ≡ n → x ≡ got a r → P) → (y ≡ got a r → P)
      → cond (eqb code n) x y ≡ got a r → P
  by_code {A} P code n x y a r f g = go (eqb code n) refl
    where
      go : (b : Bool) → eqb code n ≡ b → cond b x y ≡ got a r → P
      go true k q = f (eqb-true code n k) q
      go false k q = g q

  pub step_at : (a p done most at : ℕ) (s : Step) (r : List ℕ) → one_step a p done most (drop at input) ≡ got s r → StepAt a p done most at s r
  step_at a p done most at s r e =
      let t = then_of (field 1 (drop at input)) _ s r e in
      let f = field_at at 1 t.first t.rest t.first_is in
      let q = asked_of 5 (ltb done most) (operand a p t.first t.rest) s r t.then_is in
      go t.first f.is (omega (arith, f.there)) (ltb-true done most q.0) (ap (operand a p t.first) (sym f.rest_is) ∙ q.1)
    where
      -- A step whose operand is a handle.
      with_handle : (make : ℕ → Step) → ((h : ℕ) → at + 5 ≤ length input → number (part input (at + 1) 4) ≡ h → StepIs input at (make h))
          → ((h : ℕ) → named a p (node_of h) ≡ true → StepNamed a p (make h)) → ((h : ℕ) → step_size (make h) ≡ 5) → done < most
          → and_then (handle a p (drop (at + 1) input)) (λ h s. got (make h) s) ≡ got s r → StepAt a p done most at s r
      with_handle make is names size l q =
          let t = then_of (handle a p (drop (at + 1) input)) (λ h s. got (make h) s) s r q in
          let h = handle_at a p (at + 1) t.first t.rest t.first_is in
          subst (λ (x : Step). StepAt a p done most at x r) (got_value (make t.first) s t.rest r t.then_is)
          (record {
            is = is t.first (omega (arith, h.there)) h.is;
            names = names t.first h.names;
            few = l;
            rest_is =
                sym (got_rest (make t.first) s t.rest r t.then_is) ∙ h.rest_is
                ∙ moved (at + 1 + 4) (at + step_size (make t.first)) (omega (arith, size t.first));
          })

      -- A step whose operand is a number.
      with_number : (make : ℕ → Step) → ((k : ℕ) → at + 3 ≤ length input → number (part input (at + 1) 2) ≡ k → StepIs input at (make k))
          → ((k : ℕ) → StepNamed a p (make k)) → ((k : ℕ) → step_size (make k) ≡ 3) → done < most
          → and_then (field 2 (drop (at + 1) input)) (λ k s. got (make k) s) ≡ got s r → StepAt a p done most at s r
      with_number make is names size l q =
          let t = then_of (field 2 (drop (at + 1) input)) (λ k s. got (make k) s) s r q in
          let h = field_at (at + 1) 2 t.first t.rest t.first_is in
          subst (λ (x : Step). StepAt a p done most at x r) (got_value (make t.first) s t.rest r t.then_is)
          (record {
            is = is t.first (omega (arith, h.there)) (sym h.is);
            names = names t.first;
            few = l;
            rest_is =
                sym (got_rest (make t.first) s t.rest r t.then_is) ∙ h.rest_is
                ∙ moved (at + 1 + 2) (at + step_size (make t.first)) (omega (arith, size t.first));
          })

      -- A step with no operand.
      alone : number (part input at 1) ≡ 5 → at + 1 ≤ length input → done < most → got take_quote (drop (at + 1) input) ≡ got s r → StepAt a p done most at s r
      alone c there l q =
          subst (λ (x : Step). StepAt a p done most at x r) (got_value take_quote s (drop (at + 1) input) r q)
          (record { is = (there, c); names = tt; few = l; rest_is = sym (got_rest take_quote s (drop (at + 1) input) r q) })

      go : (code : ℕ) → code ≡ number (part input at 1) → at + 1 ≤ length input → done < most → operand a p code (drop (at + 1) input) ≡ got s r
          → StepAt a p done most at s r
      go code c there l =
          by_code (StepAt a p done most at s r) code 1 _ _ s r (λ e. with_handle add (λ h i v. (i, sym c ∙ e, v)) (λ h n. n) (λ h. refl) l)
          (by_code (StepAt a p done most at s r) code 2 _ _ s r (λ e. with_number restore (λ k i v. (i, sym c ∙ e, v)) (λ k. tt) (λ k. refl) l)
          (by_code (StepAt a p done most at s r) code 3 _ _ s r (λ e. with_number forget (λ k i v. (i, sym c ∙ e, v)) (λ k. tt) (λ k. refl) l)
          (by_code (StepAt a p done most at s r) code 4 _ _ s r (λ e. with_handle quote (λ h i v. (i, sym c ∙ e, v)) (λ h n. n) (λ h. refl) l)
          (by_code (StepAt a p done most at s r) code 5 _ _ s r (λ e. alone (sym c ∙ e) there l)
          (λ q. absurd (not_refused 8 s r q))))))

-- ---- how many there are

pub count_most : (width most : ℕ) (s : List ℕ) (n : ℕ) (r : List ℕ) → count width most s ≡ got n r → n ≤ most
count_most width most s n r e =
    by_first (field width s) _ n r e (λ v t i j.
    let q = asked_of 5 (leb v most) (got v t) n r j in subst (λ (x : ℕ). x ≤ most) (got_value v n t r q.1) (leb-true v most q.0))

pub pairs_long : (a n : ℕ) (done : List Pair) (s : List ℕ) (ps : List Pair) (r : List ℕ) → pairs a n done s ≡ got ps r → length ps ≡ length done + n
unfolding pairs
pairs_long a zero done s ps r e = omega (arith, ap length (got_value done ps s r e))
pairs_long a (suc n) done s ps r e =
    by_first (one_pair a (length done) s) _ ps r e (λ q t i j. omega (arith, pairs_long a n (done ++ q ∷ []) t ps r j, length-append done (q ∷ [])))

pub steps_most : (n a p most : ℕ) (done : List Step) (s : List ℕ) (xs : List Step) (r : List ℕ) → length done ≤ most → steps n a p most done s ≡ got xs r → length xs ≤ most
unfolding steps
steps_most zero a p most done s xs r l e = subst (λ (x : List Step). length x ≤ most) (got_value done xs s r e) l
steps_most (suc n) a p most done [] xs r l e = subst (λ (x : List Step). length x ≤ most) (got_value done xs [] r e) l
steps_most (suc n) a p most done (b ∷ s) xs r l e =
    by_first (one_step a p (length done) most (b ∷ s)) _ xs r e (λ x t i j.
    steps_most n a p most (done ++ x ∷ []) t xs r (omega (arith, (step_at (b ∷ s) a p (length done) most 0 x t i).few, length-append done (x ∷ []))) j)

-- ---- what is left of a file of version 1 after each part, from its count of atoms on

abbrev pub after_steps : List (List ℕ) → List Pair → Option ℕ → List Step → List ℕ → Got File
after_steps xs ps z ss r = got (record { atoms = xs; pairs = ps; sentinel = z; steps = ss }) r

abbrev pub after_sentinel : List (List ℕ) → List Pair → Option ℕ → List ℕ → Got File
after_sentinel xs ps z r = and_then (steps (length r) (length xs) (length ps) 1024 [] r) (after_steps xs ps z)

abbrev pub after_pairs : List (List ℕ) → List Pair → List ℕ → Got File
after_pairs xs ps r = and_then (sentinel (length xs) (length ps) r) (after_sentinel xs ps)

abbrev pub after_pair_count : List (List ℕ) → ℕ → List ℕ → Got File
after_pair_count xs np r = and_then (pairs (length xs) np [] r) (after_pairs xs)

abbrev pub after_atoms : List (List ℕ) → List ℕ → Got File
after_atoms xs r = and_then (count 2 1024 r) (after_pair_count xs)

abbrev pub after_atom_count : ℕ → List ℕ → Got File
after_atom_count na r = and_then (atoms version_1 na 0 [] r) after_atoms

-- ---- the parts of a file that passed questions 2 to 8, each read after the one before it

pub record PartsRead (l : Limits) (input : List ℕ) (f : File) : Type 0 where
  pub atom_count : ℕ
  pub pair_count : ℕ
  pub at_atoms : List ℕ
  pub at_pair_count : List ℕ
  pub at_pairs : List ℕ
  pub at_sentinel : List ℕ
  pub at_steps : List ℕ
  pub at_end : List ℕ
  pub short : length input ≤ l.file_bytes
  pub atom_count_is : count l.count_bytes l.atoms (drop 5 input) ≡ got atom_count at_atoms
  pub atoms_are : atoms l atom_count 0 [] at_atoms ≡ got f.atoms at_pair_count
  pub pair_count_is : count l.count_bytes l.pairs at_pair_count ≡ got pair_count at_pairs
  pub pairs_are : pairs (length f.atoms) pair_count [] at_pairs ≡ got f.pairs at_sentinel
  pub sentinel_is : sentinel (length f.atoms) (length f.pairs) at_sentinel ≡ got f.sentinel at_steps
  pub steps_are : steps (length at_steps) (length f.atoms) (length f.pairs) l.steps [] at_steps ≡ got f.steps at_end

pub parts_read : (l : Limits) (input : List ℕ) (f : File) (r : List ℕ) → file l input ≡ got f r → PartsRead l input f
unfolding file
parts_read l input f r e =
    let two = asked_of 2 (leb (length input) l.file_bytes) (asked 3 (same (take 5 input) (mark l)) (after_mark l (drop 5 input))) f r e in
    let three = asked_of 3 (same (take 5 input) (mark l)) (after_mark l (drop 5 input)) f r two.1 in
    by_first (count l.count_bytes l.atoms (drop 5 input)) _ f r three.1 (λ na s₁ i₁ e₁.
    by_first (atoms l na 0 [] s₁) _ f r e₁ (λ xs s₂ i₂ e₂.
    by_first (count l.count_bytes l.pairs s₂) _ f r e₂ (λ np s₃ i₃ e₃.
    by_first (pairs (length xs) np [] s₃) _ f r e₃ (λ ps s₄ i₄ e₄.
    by_first (sentinel (length xs) (length ps) s₄) _ f r e₄ (λ z s₅ i₅ e₅.
    by_first (steps (length s₅) (length xs) (length ps) l.steps [] s₅) _ f r e₅ (λ st s₆ i₆ e₆.
    subst (PartsRead l input) (got_value (record { atoms = xs; pairs = ps; sentinel = z; steps = st }) f s₆ r e₆)
    (record {
      atom_count = na;
      pair_count = np;
      at_atoms = s₁;
      at_pair_count = s₂;
      at_pairs = s₃;
      at_sentinel = s₄;
      at_steps = s₅;
      at_end = s₆;
      short = leb-true (length input) l.file_bytes two.0;
      atom_count_is = i₁;
      atoms_are = i₂;
      pair_count_is = i₃;
      pairs_are = i₄;
      sentinel_is = i₅;
      steps_are = i₆;
    })))))))
