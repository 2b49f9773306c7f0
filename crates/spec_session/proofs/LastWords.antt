-- The last step finished is no quote: then its words are those of the session at the end of the run, unless 12 or 13 refused the next add, which leaves further
-- items.
-- Assumes nothing.
use Rattle.std.specs.Prelude.{ℕ, suc, ◌+◌, ◌≡◌, refl, Bool, true, false, cond, ◌⊎◌, ◌≢◌, ltb, take}
use Rattle.std.proofs.Common.{sym, ap, ◌∙◌, subst, inl, inr, arith}
use mathlib.Core.List.{List, [], ◌∷◌}
use Rattle.std.proofs.Math.Option.{Option, none, some, some-injective}
use Rattle.words.specs.Choice.{clash}
use Rattle.spec_session.specs.File.{File, Step}
use Rattle.spec_session.specs.Unfold.{Unfolded, hole, leaf, node, unfolded}
use Rattle.spec_session.specs.Premises.{NoQuote, IfAny}
use Rattle.spec_session.specs.Cache.{Cache, update}
use Rattle.spec_session.specs.Items.{Item, cons_item, atom_item, reference_item, item_size, size_of}
use Rattle.spec_session.specs.Writer.{Todo, parse, close, Written, Outcome, done, stopped, refused, and_then, atom_entry, pair_entry, push, close_up}
use Rattle.spec_session.specs.Writer.{choose, put_if, put, put_whole, write, resume, Session, turned_down, settle, add_at}
use Rattle.spec_session.specs.Trees.{nth}
use Rattle.spec_session.specs.FindPath.{find_in}
use Rattle.spec_session.specs.Steps.{too_deep, room_in, words_of, State, at_start, went, Run, run_steps}
use Rattle.spec_session.proofs.StepLaws.{words_at, Plain, plain_step, walk, EndsAt, Ends, run_ends, Taken, run_taken, reached_answered, Leaves, refused_leaves}

-- ---- the numbers of an add

-- Of 12 and 13.
abbrev ByRoom : ℕ → Type 0
ByRoom n = (n ≡ 12) ⊎ (n ≡ 13)

abbrev Numbered : Outcome → Type 0
Numbered (done w) = Unit {0}
Numbered (stopped k w) = Unit {0}
Numbered (refused n w) = ByRoom n

numbered_then : (o : Outcome) (f : Written → Outcome) → Numbered o → ((w : Written) → Numbered (f w)) → Numbered (and_then o f)
numbered_then (done w) f h g = g w
numbered_then (stopped k w) f h g = tt
numbered_then (refused n w) f h g = h

numbered_choose : (o : Option (List Bool)) (refer : List Bool → Outcome) (full : Outcome) → ((path : List Bool) → Numbered (refer path)) → Numbered full
    → Numbered (choose o refer full)
numbered_choose none refer full h g = g
numbered_choose (some path) refer full h g = h path

module _ (find : Cache → List ℕ → List ℕ → ℕ → ℕ → Option (List Bool)) (space : ℕ) where
  numbered_put : (k : List Todo) (i : Item) (w : Written) → Numbered (put find (room_in space) k i w)
  numbered_put k i w = go (too_deep i k) (ltb space (size_of w.items + item_size i))
    where
      go : (d b : Bool) → Numbered (put_if (cond d 12 (cond b 13 0)) i w)
      go true b = inl refl
      go false true = inr refl
      go false false = tt

  numbered_whole : (c : Cache) (k : List Todo) (e : ℕ) (i : Item) (w : Written) → Numbered (put_whole find (room_in space) c k e i w)
  numbered_whole c k e i w = numbered_then (put find (room_in space) k i w) (λ v. done (push c e v)) (numbered_put k i w) (λ v. tt)

  numbered_write : (c : Cache) (u : Unfolded) (k : List Todo) (w : Written) → Numbered (write find (room_in space) c u k w)
  unfolding write
  numbered_write c hole k w = tt
  numbered_write c (leaf g bytes) k w =
      let e = atom_entry c bytes in
      numbered_choose (find c w.marked w.stack g e) _ _ (λ path. numbered_whole c k e (reference_item path) w) (numbered_whole c k e (atom_item bytes) w)
  numbered_write c (node g l r) k w =
      numbered_choose (find c w.marked w.stack g (pair_entry c g)) _ _ (λ path. numbered_whole c k (pair_entry c g) (reference_item path) w)
      (numbered_then (put find (room_in space) k cons_item w) _ (numbered_put k cons_item w) (λ w₁.
      numbered_then (write find (room_in space) c l (parse r ∷ close g ∷ k) w₁) _ (numbered_write c l (parse r ∷ close g ∷ k) w₁) (λ w₂.
      numbered_then (write find (room_in space) c r (close g ∷ k) w₂) _ (numbered_write c r (close g ∷ k) w₂) (λ w₃. tt))))

  numbered_resume : (c : Cache) (k : List Todo) (w : Written) → Numbered (resume find (room_in space) c k w)
  unfolding resume
  numbered_resume c [] w = tt
  numbered_resume c (parse u ∷ k) w =
      numbered_then (write find (room_in space) c u k w) (λ v. resume find (room_in space) c k v) (numbered_write c u k w) (λ v. numbered_resume c k v)
  numbered_resume c (close g ∷ k) w = numbered_resume c k (close_up c g w)

  -- An add to a finished session leaves it; any other is refused by 12 or 13 alone.
  pub add_numbers : (t : Unfolded) (s : Session) (o : Option (List Todo)) (n : ℕ) (q : Session) → add_at find (room_in space) t s o ≡ turned_down n q
      → (q ≡ s) ⊎ ((n ≡ 12) ⊎ (n ≡ 13))
  add_numbers t s none n q e = inl cc
  add_numbers t s (some k) n q e =
      go (resume find (room_in space) (update t s.cache) (parse t ∷ k) s.written) (numbered_resume (update t s.cache) (parse t ∷ k) s.written) e
    where
      go : (o : Outcome) → Numbered o → settle s (update t s.cache) o ≡ turned_down n q → (q ≡ s) ⊎ ((n ≡ 12) ⊎ (n ≡ 13))
      go (done w) h e = clash cc
      go (stopped k w) h e = clash cc
      go (refused m w) h e = let same : m ≡ n = cc in inr (subst ByRoom same h)

-- ---- the last words

module _ (measure : List Bool → ℕ) (space : ℕ) (f : File) where
  -- A run whose next step is refused by another number ends in the session before that step.
  ends_there : (xs : List Step) (st : State) (n : ℕ) (s : Session) (o : Option Step) → walk measure space f xs at_start ≡ some st → n ≢ 12 → n ≢ 13
      → EndsAt measure space f o st n s → s ≡ st.now
  ends_there xs st n s none w a b e = e.1
  ends_there xs st n s (some x) w a b e = go (refused_leaves measure space f x st n s (reached_answered measure space f xs st w) e)
    where
      by_number : (s ≡ st.now) ⊎ ((n ≡ 12) ⊎ (n ≡ 13)) → s ≡ st.now
      by_number (inl q) = q
      by_number (inr (inl q)) = absurd (a q)
      by_number (inr (inr q)) = absurd (b q)

      go : Leaves measure space f x st n s → s ≡ st.now
      go (inl q) = q
      go (inr (h, q, t)) = by_number (add_numbers (find_in measure) space (unfolded f h) st.now st.now.waiting n s t)

  -- THE LAST WORDS.
  pub last_words : (xs : List Step) (k : ℕ) → suc k ≡ (run_steps measure space f xs at_start).steps → IfAny NoQuote (nth xs k)
      → (run_steps measure space f xs at_start).number ≢ 12 → (run_steps measure space f xs at_start).number ≢ 13
      → words_at (run_steps measure space f xs at_start).words k ≡ words_of (run_steps measure space f xs at_start).last
  last_words xs k l q a b =
      go (run_steps measure space f xs at_start) l a b (run_ends measure space f xs at_start) (run_taken measure space f xs at_start k (omega arith))
    where
      go : (r : Run) → suc k ≡ r.steps → r.number ≢ 12 → r.number ≢ 13 → Ends measure space f xs at_start r → Taken measure space f xs at_start k r
          → words_at r.words k ≡ words_of r.last
      go r l a b m t =
          let plain : Plain measure space f (went t.words t.after) =
          subst (Plain measure space f) t.goes (plain_step measure space f t.kind (subst (IfAny NoQuote) t.is q) t.before) in
          let there : walk measure space f (take (suc k) xs) at_start ≡ some m.reached = ap (λ (n : ℕ). walk measure space f (take n xs) at_start) l ∙ m.walked in
          let same : m.reached ≡ t.after = some-injective m.reached t.after (sym there ∙ t.onward_to) in
          let last_is : r.last ≡ m.reached.now = ends_there (take r.steps xs) m.reached r.number r.last (nth xs r.steps) m.walked a b m.ends in
          t.words_are ∙ plain.0 ∙ ap (λ (st : State). words_of st.now) (sym same) ∙ ap words_of (sym last_is)
