-- Two readers whose values stay related, item by item, answer alike: both are turned down with the same number, or both accept related values.
use Prim.Native.Nat.{ℕ, zero, suc, ◌+◌, ◌≤◌, ◌<◌}
use Rattle.std.specs.Prelude.{◌≡◌, Bool, true, false, cond, eqb, length, drop}
use Rattle.std.proofs.Math.Path.{refl, subst}
use mathlib.Core.List.{List, [], ◌∷◌}
use Rattle.std.proofs.Math.Option.{Option, none, some}
use Rattle.std.proofs.Common.{arith, length-drop}
use Rattle.words.specs.Lists.{Bytes, all_drop}
use Rattle.atom.specs.Parse.{Parse, blob, refused, parse, blob_of}
use Rattle.path.specs.Bytes.{read_path}
use Rattle.spec_reading.specs.Format.{Values, ParseOp, SExp, Cons, At, Step, go, whole, stop, Read, accepted, turned_down, at_end, settle}
use Rattle.spec_reading.specs.Format.{pushed, atom_item, path_item, item, next_item, step, then, run, read}
use Rattle.spec_reading.proofs.Blobs.{blob_within, length_blob, bytes_blob}

-- Both are there and related, or neither is.
abbrev pub BothOrNone : {S T : Type 0} → (S → T → Type 0) → Option S → Option T → Type 0
BothOrNone P none none = Unit {0}
BothOrNone P none (some t) = ⊥
BothOrNone P (some s) none = ⊥
BothOrNone P (some s) (some t) = P s t

-- A relation between the values of two readers, after so many bytes and with so much left to do (SExp first where a tree is read next), that every
-- item keeps: `ff`, an atom of n bytes with its prefix, a reference of n bytes, a join.
pub record Alike {S T : Type 0} (keep : Values S) (hold : Values T) (R : ℕ → List ParseOp → S → T → Type 0) (limit : ℕ) : Type 0 where
  pub pair_alike : (used : ℕ) (ops : List ParseOp) (s : S) (t : T) → used + 1 ≤ limit → R used (SExp ∷ ops) s t → R (used + 1) (SExp ∷ SExp ∷ Cons ∷ ops) s t
  pub atom_alike : (used n : ℕ) (ops : List ParseOp) (b : List ℕ) (s : S) (t : T) → 1 ≤ n → length b ≤ n → used + n ≤ limit → Bytes b
      → R used (SExp ∷ ops) s t → R (used + n) ops (keep.push_atom b s) (hold.push_atom b t)
  pub path_alike : (used n : ℕ) (ops : List ParseOp) (path : Option (List Bool)) (s : S) (t : T) → 1 ≤ n → used + n ≤ limit
      → R used (SExp ∷ ops) s t → BothOrNone (R (used + n) ops) (keep.push_path path s) (hold.push_path path t)
  pub join_alike : (used : ℕ) (ops : List ParseOp) (s : S) (t : T) → used ≤ limit → R used (Cons ∷ ops) s t → R used ops (keep.join s) (hold.join t)

module _ {S T : Type 0} (R : ℕ → List ParseOp → S → T → Type 0) (total : ℕ) where
  -- Two readers at the same place of an input of `total` bytes, with related values.
  pub record Beside (a : At S) (b : At T) : Type 0 where
    pub used : ℕ
    pub counted : used + length a.rest ≡ total
    pub same_rest : a.rest ≡ b.rest
    pub same_ops : a.ops ≡ b.ops
    pub bytes : Bytes a.rest
    pub related : R used (SExp ∷ a.ops) a.values b.values

  abbrev pub SameStep : Step S → Step T → Type 0
  SameStep (go a) (go b) = Beside a b
  SameStep (go a) (whole t) = ⊥
  SameStep (go a) (stop n) = ⊥
  SameStep (whole s) (go b) = ⊥
  SameStep (whole s) (whole t) = R total [] s t
  SameStep (whole s) (stop n) = ⊥
  SameStep (stop m) (go b) = ⊥
  SameStep (stop m) (whole t) = ⊥
  SameStep (stop m) (stop n) = m ≡ n

  -- The same number, or related values when all the bytes are used and nothing is left to do.
  abbrev pub SameRead : Read S → Read T → Type 0
  SameRead (accepted s) (accepted t) = R total [] s t
  SameRead (accepted s) (turned_down n) = ⊥
  SameRead (turned_down m) (accepted t) = ⊥
  SameRead (turned_down m) (turned_down n) = m ≡ n

module _ {S T : Type 0} (keep : Values S) (hold : Values T) (R : ℕ → List ParseOp → S → T → Type 0) (total : ℕ) (alike : Alike keep hold R total) where
  at_end_same : (used : ℕ) (rest : List ℕ) (s : S) (t : T) → used + length rest ≡ total → R used [] s t → SameStep R total (at_end keep rest s) (at_end hold rest t)
  at_end_same used [] s t c r = subst (λ (u : ℕ). R u [] s t) (omega arith) r
  at_end_same used (b ∷ rest) s t c r = refl

  settle_same : (used : ℕ) (rest : List ℕ) (ops : List ParseOp) (s : S) (t : T) → used + length rest ≡ total → Bytes rest → R used ops s t
      → SameStep R total (settle keep rest ops s) (settle hold rest ops t)
  settle_same used rest [] s t c b r = at_end_same used rest s t c r
  settle_same used rest (SExp ∷ ops) s t c b r = record { used = used; counted = c; same_rest = refl; same_ops = refl; bytes = b; related = r }
  settle_same used rest (Cons ∷ ops) s t c b r = settle_same used rest ops (keep.join s) (hold.join t) c b (alike.join_alike used ops s t (omega arith) r)

  pushed_same : (used : ℕ) (rest : List ℕ) (ops : List ParseOp) (s : Option S) (t : Option T) → used + length rest ≡ total → Bytes rest → BothOrNone (R used ops) s t
      → SameStep R total (pushed keep s rest ops) (pushed hold t rest ops)
  pushed_same used rest ops none none c b r = refl
  pushed_same used rest ops none (some t) c b r = absurd r
  pushed_same used rest ops (some s) none c b r = absurd r
  pushed_same used rest ops (some s) (some t) c b r = settle_same used rest ops s t c b r

  module _ (used : ℕ) (ops : List ParseOp) (s : S) (t : T) (r : R used (SExp ∷ ops) s t) where
    atom_same : (bytes : List ℕ) (p : Parse) → parse bytes ≡ p → used + length bytes ≡ total → Bytes bytes
        → SameStep R total (atom_item keep p bytes ops s) (atom_item hold p bytes ops t)
    atom_same bytes (refused n) e c b = refl
    atom_same bytes (blob start end) e c b =
        let w = blob_within bytes start end e in
        settle_same (used + end) (drop end bytes) ops (keep.push_atom (blob_of bytes (blob start end)) s) (hold.push_atom (blob_of bytes (blob start end)) t)
        (omega (arith, length-drop end bytes, w.inside)) (all_drop (λ (n : ℕ). n < 256) end bytes b)
        (alike.atom_alike used end ops (blob_of bytes (blob start end)) s t w.some_byte (length_blob bytes start end w) (omega (arith, w.inside)) (bytes_blob bytes start end w b) r)

    path_same : (bytes : List ℕ) (p : Parse) → parse bytes ≡ p → used + suc (length bytes) ≡ total → Bytes bytes
        → SameStep R total (path_item keep p bytes ops s) (path_item hold p bytes ops t)
    path_same bytes (refused n) e c b = refl
    path_same bytes (blob start end) e c b =
        let w = blob_within bytes start end e in
        pushed_same (used + (end + 1)) (drop end bytes) ops (keep.push_path (read_path (blob_of bytes (blob start end))) s) (hold.push_path (read_path (blob_of bytes (blob start end))) t)
        (omega (arith, length-drop end bytes, w.inside)) (all_drop (λ (n : ℕ). n < 256) end bytes b)
        (alike.path_alike used (end + 1) ops (read_path (blob_of bytes (blob start end))) s t (omega arith) (omega (arith, w.inside)) r)

    item_same : (b : ℕ) (rest : List ℕ) → used + suc (length rest) ≡ total → Bytes (b ∷ rest) → SameStep R total (item keep b rest ops s) (item hold b rest ops t)
    item_same b rest c bs = choose (eqb b 0xff) (eqb b 0xfe)
      where
        pair_same : SameStep R total (go (record { rest = rest; ops = SExp ∷ Cons ∷ ops; values = s })) (go (record { rest = rest; ops = SExp ∷ Cons ∷ ops; values = t }))
        pair_same = record { used = used + 1; counted = omega arith; same_rest = refl; same_ops = refl; bytes = bs.1; related = alike.pair_alike used ops s t (omega arith) r }

        choose : (f g : Bool) → SameStep R total
            (cond f (go (record { rest = rest; ops = SExp ∷ Cons ∷ ops; values = s })) (cond g (path_item keep (parse rest) rest ops s) (atom_item keep (parse (b ∷ rest)) (b ∷ rest) ops s)))
            (cond f (go (record { rest = rest; ops = SExp ∷ Cons ∷ ops; values = t })) (cond g (path_item hold (parse rest) rest ops t) (atom_item hold (parse (b ∷ rest)) (b ∷ rest) ops t)))
        choose true g = pair_same
        choose false true = path_same rest (parse rest) refl c bs.1
        choose false false = atom_same (b ∷ rest) (parse (b ∷ rest)) refl c bs

    next_same : (rest : List ℕ) → used + length rest ≡ total → Bytes rest → SameStep R total (next_item keep rest ops s) (next_item hold rest ops t)
    next_same [] c bs = refl
    next_same (b ∷ rest) c bs = item_same b rest c bs

  -- One item.
  pub step_same : (a : At S) (b : At T) → Beside R total a b → SameStep R total (step keep a) (step hold b)
  unfolding step
  step_same a b h =
      subst (λ (rest : List ℕ). SameStep R total (step keep a) (next_item hold rest b.ops b.values)) h.same_rest
      (subst (λ (ops : List ParseOp). SameStep R total (step keep a) (next_item hold a.rest ops b.values)) h.same_ops
      (next_same h.used a.ops a.values b.values h.related a.rest h.counted h.bytes))

  then_same : (f : At S → Read S) (g : At T → Read T) → ((a : At S) (b : At T) → Beside R total a b → SameRead R total (f a) (g b))
      → (x : Step S) (y : Step T) → SameStep R total x y → SameRead R total (then keep x f) (then hold y g)
  then_same f g next (go a) (go b) h = next a b h
  then_same f g next (go a) (whole t) h = absurd h
  then_same f g next (go a) (stop n) h = absurd h
  then_same f g next (whole s) (go b) h = absurd h
  then_same f g next (whole s) (whole t) h = h
  then_same f g next (whole s) (stop n) h = absurd h
  then_same f g next (stop m) (go b) h = absurd h
  then_same f g next (stop m) (whole t) h = absurd h
  then_same f g next (stop m) (stop n) h = h

  pub run_same : (n : ℕ) (a : At S) (b : At T) → Beside R total a b → SameRead R total (run keep n a) (run hold n b)
  unfolding run
  run_same zero a b h = refl
  run_same (suc n) a b h = then_same (λ c. run keep n c) (λ c. run hold n c) (λ c d k. run_same n c d k) (step keep a) (step hold b) (step_same a b h)

-- The readers answer alike on a whole input.
pub read_same : {S T : Type 0} (keep : Values S) (hold : Values T) (R : ℕ → List ParseOp → S → T → Type 0) (input : List ℕ) (s : S) (t : T)
    → Alike keep hold R (length input) → Bytes input → R 0 (SExp ∷ []) s t → SameRead R (length input) (read keep input s) (read hold input t)
unfolding read
read_same keep hold R input s t alike bs r =
    run_same keep hold R (length input) alike (length input) (record { rest = input; ops = []; values = s }) (record { rest = input; ops = []; values = t })
    (record { used = 0; counted = omega arith; same_rest = refl; same_ops = refl; bytes = bs; related = r })
