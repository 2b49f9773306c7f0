-- What a cache keeps as it grows: its entries, but for their parents, stand at the front of the later ones. So the keys and lengths of a cache that a `03` puts
-- back are still there, and need not be saved.
-- Assumes nothing.
use Rattle.std.specs.Prelude.{ℕ, zero, suc, ◌≡◌, refl, List, [], ◌∷◌, ◌++◌, map, length}
use Rattle.std.proofs.Common.{sym, ap, ◌∙◌, append-nil, append_assoc}
use Rattle.std.proofs.Math.Option.{Option, none, some}
use Rattle.spec_session.specs.Unfold.{Unfolded, hole, leaf, node}
use Rattle.spec_session.specs.Cache.{Key, Parent, Entry, Cache, lookup, find_key, adjust, new_entry, with_entries, keep_or_add, find_or_add, link_pair, join_pair}
use Rattle.atom.specs.Write.{serialized_length}
use Rattle.spec_session.specs.Cache.{known_or, atom_key, length_at, pair_key, pair_length, enter, sentinel_parents, clear_sentinel, place_root, update}
use Rattle.spec_session.specs.Extends.{Extends, bare}

pub extends_refl : (c : Cache) → Extends c c
extends_refl c = record { more = []; entries_are = sym (append-nil (map bare c.entries)) }

pub extends_trans : (a b c : Cache) → Extends a b → Extends b c → Extends a c
extends_trans a b c x y = record {
  more = x.more ++ y.more;
  entries_are = y.entries_are ∙ ap (λ (l : List Entry). l ++ y.more) x.entries_are ∙ append_assoc (map bare a.entries) x.more y.more;
}

bare_adjust : (e : ℕ) (f : List Parent → List Parent) (es : List Entry) → map bare (adjust e f es) ≡ map bare es
bare_adjust e f [] = refl
bare_adjust zero f (x ∷ es) = refl
bare_adjust (suc e) f (x ∷ es) = ap (λ (l : List Entry). bare x ∷ l) (bare_adjust e f es)

bare_append : (xs : List Entry) (y : Entry) → map bare (xs ++ y ∷ []) ≡ map bare xs ++ bare y ∷ []
bare_append [] y = refl
bare_append (x ∷ xs) y = ap (λ (l : List Entry). bare x ∷ l) (bare_append xs y)

-- The same entries but for parents.
same_bare : (a b : Cache) → map bare b.entries ≡ map bare a.entries → Extends a b
same_bare a b e = record { more = []; entries_are = e ∙ sym (append-nil (map bare a.entries)) }

one_entry : (c : Cache) (k : Key) (n : ℕ) (o : Option ℕ) → Extends c (record { entries = c.entries ++ new_entry k n ∷ []; mapped = c.mapped; sentinel_entry = o })
one_entry c k n o = record { more = new_entry k n ∷ []; entries_are = bare_append c.entries (new_entry k n) }

found_extends : (k : Key) (n : ℕ) (c : Cache) → Extends c (find_or_add k n c).0
found_extends k n c = go (find_key k c.entries)
  where
    go : (o : Option ℕ) → Extends c (keep_or_add o k n c).0
    go (some e) = extends_refl c
    go none = one_entry c k n c.sentinel_entry

link_extends : (h a b : ℕ) (found : Cache × ℕ) → Extends found.0 (link_pair h a b found).0
link_extends h a b found =
    same_bare found.0 (link_pair h a b found).0 (bare_adjust b _ (adjust a _ found.0.entries) ∙ bare_adjust a _ found.0.entries)

join_extends : (h a : ℕ) (right : Cache × ℕ) → Extends right.0 (join_pair h a right).0
join_extends h a right =
    let found = find_or_add (pair_key a right.1) (pair_length (length_at a right.0.entries) (length_at right.1 right.0.entries)) right.0 in
    extends_trans right.0 found.0 (join_pair h a right).0
    (found_extends (pair_key a right.1) (pair_length (length_at a right.0.entries) (length_at right.1 right.0.entries)) right.0)
    (link_extends h a right.1 found)

pub enter_extends : (u : Unfolded) (c : Cache) → Extends c (enter u c).0
unfolding enter
enter_extends hole c = one_entry c _ 0 (some (length c.entries))
enter_extends (leaf h bytes) c = found_extends (atom_key bytes) (serialized_length bytes) c
enter_extends (node h l r) c =
    go (lookup h c.mapped) (join_pair h (enter l c).1 (enter r (enter l c).0))
    (extends_trans c (enter l c).0 _ (enter_extends l c)
    (extends_trans (enter l c).0 (enter r (enter l c).0).0 _ (enter_extends r (enter l c).0) (join_extends h (enter l c).1 (enter r (enter l c).0))))
  where
    go : (o : Option ℕ) (new : Cache × ℕ) → Extends c new.0 → Extends c (known_or o c new).0
    go (some e) new x = extends_refl c
    go none new x = x

clear_bare : (o : Option ℕ) (es : List Entry) → map bare (clear_sentinel o es) ≡ map bare es
clear_bare none es = refl
clear_bare (some s) es = bare_adjust s _ es

pub update_extends : (t : Unfolded) (c : Cache) → Extends c (update t c)
unfolding update
update_extends t c =
    let c₁ : Cache = with_entries (clear_sentinel c.sentinel_entry c.entries) c in
    let r = enter t c₁ in
    extends_trans c c₁ _ (same_bare c c₁ (clear_bare c.sentinel_entry c.entries))
    (extends_trans c₁ r.0 _ (enter_extends t c₁)
    (same_bare r.0 (place_root (sentinel_parents c.sentinel_entry c.entries) r) (bare_adjust r.1 _ r.0.entries)))
