-- Laws of an atom: what the parser found is what the definition reads, and what was pushed is what the definition pushes.
-- Assumes nothing.
use Rattle.std.specs.Prelude.{Result, Err}
use Prim.Native.Nat.{ℕ, ◌+◌, ◌-◌, ◌*◌, ◌≤◌}
use mathlib.Core.Path.{◌≡◌, refl, sym, ap, subst, ◌∙◌}
use mathlib.Core.List.{List, ◌∷◌}
use mathlib.Core.Option.{Option, none, some}
use native.Mathlib.Omega.{arith}
use lib.ListN.{length, take, drop, length-drop}
use lib.Seq.{drop-drop}
use Rattle.words.specs.Choice.{clash}
use Rattle.atom.specs.Parse.{Parse, blob, refused, parse, moved_by, parse_at, blob_of}
use Rattle.atom.specs.ParseLaws.{blob_there}
use Rattle.allocator.specs.SmallAtom.{fits_in_small_atom}
use Rattle.spec_reading.specs.Format.{ParseOp, SExp, settle, atom_item}
use Rattle.spec_reading.specs.Store.{Store, Stored, small_or_listed, new_atom, push_made, store_values}
use Rattle.spec_reading.specs.Sound.{Sound, unlisted}
use Rattle.spec_reading.proofs.Sound.{sound_atom}
use Rattle.spec_reading.proofs.Blobs.{Within, blob_within, length_blob}
use Rattle.read_store.specs.Layout.{ops_of, values_of}
use Rattle.read_item.specs.declared.settle.Reader.{Reader}
use Rattle.read_item.specs.declared.settle.Item.{Item}
use Rattle.read_item.specs.declared.read_error.ReadError.{ReadError}
use Rattle.read_item.specs.Refusals.{number}
use Rattle.read_item.specs.State.{Ready, Next}
use Rattle.read_item.specs.Whole.{stored_of, Lent, Stands}
use Rattle.read_item.specs.Values.{AtomRoom, AtomPushed, SteppedAtom}
use Rattle.read_item.proofs.settle.Joins.{length_ops, stored_is}
use Rattle.read_item.proofs.read_value.Lending.{Counts, counts, lent_after, item_same, item_stands}

-- ---- what the parser found

-- The atom at a place, counted from there.
pub record Found (input : List ℕ) (p start end : ℕ) : Type 0 where
  pub from : ℕ
  pub size : ℕ
  pub parsed : parse (drop p input) ≡ blob from size
  pub start_is : start ≡ p + from
  pub end_is : end ≡ p + size
  pub within : Within (drop p input) from size
  pub bytes_are : blob_of input (blob start end) ≡ blob_of (drop p input) (blob from size)

same_blob : (input : List ℕ) (p s e : ℕ) → p ≤ length input → Within (drop p input) s e → blob_of input (blob (p + s) (p + e)) ≡ blob_of (drop p input) (blob s e)
same_blob input p s e h k =
    blob_there input (p + s) (p + e) (omega (arith, k.forward)) (omega (arith, k.inside, length-drop p input)) ∙ ap (λ (n : ℕ). take n (drop (p + s) input)) count
    ∙ ap (take (e - s)) (sym (drop-drop s p input)) ∙ sym (blob_there (drop p input) s e k.forward k.inside)
  where
    count : p + e - (p + s) ≡ e - s
    count = omega arith

pub found_at : (input : List ℕ) (p start end : ℕ) → p ≤ length input → blob start end ≡ parse_at input p → Found input p start end
found_at input p start end h e = go_on (parse (drop p input)) refl (e ∙ unfold parse_at in refl)
  where
    go_on : (z : Parse) → parse (drop p input) ≡ z → blob start end ≡ moved_by p (parse (drop p input)) → Found input p start end
    go_on (refused n) q r = absurd (let x : blob start end ≡ refused n = r ∙ ap (moved_by p) q in clash cc)
    go_on (blob s k) q r =
        let x : blob start end ≡ blob (p + s) (p + k) = r ∙ ap (moved_by p) q in
        let i : start ≡ p + s = cc in
        let j : end ≡ p + k = cc in
        let w = blob_within (drop p input) s k q in
        record {
          from = s;
          size = k;
          parsed = q;
          start_is = i;
          end_is = j;
          within = w;
          bytes_are = ap (λ (n : ℕ). blob_of input (blob n end)) i ∙ ap (λ (n : ℕ). blob_of input (blob (p + s) n)) j ∙ same_blob input p s k h w;
        }

pub refused_at : (input : List ℕ) (p n : ℕ) → refused n ≡ parse_at input p → parse (drop p input) ≡ refused n
refused_at input p n e = go_on (parse (drop p input)) refl (e ∙ unfold parse_at in refl)
  where
    go_on : (z : Parse) → parse (drop p input) ≡ z → refused n ≡ moved_by p (parse (drop p input)) → parse (drop p input) ≡ refused n
    go_on (refused m) q r = q ∙ sym (r ∙ ap (moved_by p) q)
    go_on (blob s k) q r = absurd (let x : refused n ≡ blob (p + s) (p + k) = r ∙ ap (moved_by p) q in clash cc)

-- ---- what was pushed

same_pairs : (o : Option ℕ) (b : List ℕ) (s : Store) → (small_or_listed o b s).store.pairs ≡ s.pairs
same_pairs none b s = refl
same_pairs (some v) b s = refl

same_ghosts : (o : Option ℕ) (b : List ℕ) (s : Store) → (small_or_listed o b s).store.ghosts ≡ s.ghosts
same_ghosts none b s = refl
same_ghosts (some v) b s = refl

module _ (w p a b : List ℕ) (r : Reader) (bytes : List ℕ) (end : ℕ) (w' a' b' : List ℕ) (r' : Reader) (h : AtomPushed w a b r bytes end w' a' b' r') where
  st : Store
  st = (stored_of w p a b r).store

  pub pushed_is : store_values.push_atom bytes (stored_of w p a b r) ≡ stored_of w' p a' b' r'
  unfolding st
  pushed_is =
      stored_is (push_made (new_atom bytes st) (values_of w r.values)) (values_of w' r'.values) (take (2 * r'.pairs) p) (take (2 * r'.atoms) a') (take r'.bytes b') r'.ghosts
      (ap (λ (n : ℕ). record { node = n; list = none } ∷ values_of w r.values) (sym (h.stored.node_is st refl)) ∙ sym h.pushed.values ∙ ap (values_of w') (sym h.values))
      (same_pairs (fits_in_small_atom bytes) bytes st ∙ ap (λ (n : ℕ). take (2 * n) p) (sym h.pairs))
      (sym (h.stored.atoms_are st refl refl)) (sym (h.stored.bytes_are st refl))
      (ap (λ (n : ℕ). n + 1) (same_ghosts (fits_in_small_atom bytes) bytes st) ∙ sym h.ghosts)

-- ---- the item

module _ (input w p a b : List ℕ) (r : Reader) (h : Stands input w p a b r) (start end : ℕ) (f : Found input r.position start end) where
  abbrev pub atom_bytes : List ℕ
  atom_bytes = blob_of input (blob start end)

  limits : Counts r r.position
  limits = counts input w p a b r (SExp ∷ ops_of w r.ops) r.position h.lent (omega (arith, length_ops w r.ops)) h.sound

  short_blob : length atom_bytes ≤ f.size
  short_blob = rw f.bytes_are (length_blob (drop r.position input) f.from f.size f.within)

  inside_end : end ≤ length input
  inside_end = omega (arith, f.end_is, f.within.inside, length-drop r.position input, h.lent.inside)

  pub atom_room : AtomRoom w a b r atom_bytes
  atom_room =
      record {
        work = h.lent.work;
        values = omega (arith, limits.values, h.lent.inside, h.lent.short);
        atoms_room = omega (arith, limits.atoms, h.lent.inside, h.lent.short, h.lent.atoms_room, inside_end, f.end_is, f.within.some_byte);
        bytes_room = omega (arith, limits.bytes, short_blob, inside_end, f.end_is, h.lent.short, h.lent.bytes_room);
        few_atoms = omega (arith, limits.atoms, h.lent.inside, h.lent.short);
        few_bytes = omega (arith, limits.bytes, short_blob, inside_end, f.end_is, h.lent.short);
        ghosts = omega (arith, limits.pairs, h.lent.inside, h.lent.short);
      }

  module _ (w' a' b' : List ℕ) (r' : Reader) (k : AtomPushed w a b r atom_bytes end w' a' b' r') (lw : length w' ≡ length w) (la : length a' ≡ length a) (lb : length b' ≡ length b) where
    ops_are : ops_of w' r'.ops ≡ ops_of w r.ops
    ops_are = ap (ops_of w') k.ops ∙ k.pushed.ops r.ops (omega (arith, limits.ops, h.lent.inside, h.lent.short, inside_end, f.end_is, f.within.some_byte))

    pub lent_pushed : Lent input w' p a' b' r'
    lent_pushed =
        lent_after input w p a b r w' p a' b' r' h.lent lw refl la lb (omega (arith, k.position, inside_end))
        (omega (arith, k.pairs, h.lent.pairs_in)) (omega (arith, k.pairs)) refl
        (omega (arith, k.stored.atoms_grow.1, atom_room.atoms_room)) k.stored.atoms_grow.0 k.stored.atoms_rest
        (omega (arith, k.stored.bytes_grow.1, atom_room.bytes_room)) k.stored.bytes_grow.0 k.stored.bytes_rest

    pub sound_pushed : Sound r'.position (ops_of w' r'.ops) (stored_of w' p a' b' r')
    sound_pushed =
        subst (λ (n : ℕ). Sound n (ops_of w' r'.ops) (stored_of w' p a' b' r')) (sym (k.position ∙ f.end_is))
        (subst (λ (o : List ParseOp). Sound (r.position + f.size) o (stored_of w' p a' b' r')) (sym ops_are)
        (subst (Sound (r.position + f.size) (ops_of w r.ops)) (pushed_is w p a b r atom_bytes end w' a' b' r' k)
        (sound_atom r.position f.size (ops_of w r.ops) atom_bytes (stored_of w p a b r) f.within.some_byte short_blob (omega (arith, inside_end, f.end_is, h.lent.short)) h.sound)))

    -- What settling asks.
    pub ready_pushed : Ready w' p r' × (r'.position ≤ length input)
    ready_pushed = (
      record {
        atoms = take (2 * r'.atoms) a';
        bytes = take r'.bytes b';
        work = lent_pushed.work;
        room = lent_pushed.pairs_room;
        limit = omega (arith, lent_pushed.inside, h.lent.short);
        pairs_in = lent_pushed.pairs_in;
        sound = sound_pushed;
        lists =
            record {
              all = ap (λ (n : ℕ). unlisted (values_of w' n)) k.listed ∙ ap unlisted (k.pushed.below r.listed h.lists.few) ∙ h.lists.all;
              few = omega (arith, k.listed, k.values, h.lists.few);
            };
      },
      lent_pushed.inside,
    )

    pub atom_stepped : (w'' p'' : List ℕ) (i : Result Item ReadError) → length w'' ≡ length w' → length p'' ≡ length p → Next input w' p r' w'' p'' i → SteppedAtom input w p a b r w'' p'' a' b' i
    atom_stepped w'' p'' i lw' lp n =
        record {
          same =
              ap (λ (z : Parse). atom_item store_values z (drop r.position input) (ops_of w r.ops) (stored_of w p a b r)) f.parsed
              ∙ ap (λ (l : List ℕ). settle store_values (drop f.size (drop r.position input)) (ops_of w r.ops) (store_values.push_atom l (stored_of w p a b r))) (sym f.bytes_are)
              ∙ ap (λ (x : Stored). settle store_values (drop f.size (drop r.position input)) (ops_of w r.ops) x) (pushed_is w p a b r atom_bytes end w' a' b' r' k)
              ∙ ap (λ (l : List ℕ). settle store_values l (ops_of w r.ops) (stored_of w' p a' b' r')) rest_is
              ∙ ap (λ (o : List ParseOp). settle store_values (drop r'.position input) o (stored_of w' p a' b' r')) (sym ops_are)
              ∙ n.same (take (2 * r'.atoms) a') (take r'.bytes b') ∙ item_same input w' p r' a' b' w'' p'' lent_pushed lw' lp sound_pushed i n.follows;
          stands = item_stands input w' p r' a' b' w'' p'' lent_pushed lw' lp sound_pushed i n.follows;
        }
      where
        rest_is : drop f.size (drop r.position input) ≡ drop r'.position input
        rest_is = drop-drop f.size r.position input ∙ ap (λ (n : ℕ). drop n input) (sym (k.position ∙ f.end_is))

-- The parser's refusal is the definition's.
pub atom_refused : (input w p a b : List ℕ) (r : Reader) (why : ReadError) → refused (number why) ≡ parse_at input r.position
    → SteppedAtom input w p a b r w p a b (Err why)
atom_refused input w p a b r why e =
    record {
      same = ap (λ (z : Parse). atom_item store_values z (drop r.position input) (ops_of w r.ops) (stored_of w p a b r)) (refused_at input r.position (number why) e);
      stands = tt;
    }
