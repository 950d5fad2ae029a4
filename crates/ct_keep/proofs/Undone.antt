-- What puts do to that which undoes them.
use Rattle.std.proofs.Common.{◌≡◌, ℕ, Bool, true, false, cond, List, [], ◌∷◌, ◌++◌, Option, Some, None, refl, sym, ap, subst, ◌∙◌, map}
use Rattle.std.proofs.lemmas.Bool.{false≢true}
use Rattle.std.proofs.lemmas.Cmp.{nat_list_cmp_total}
use Rattle.std.proofs.lemmas.List.{map-append, reverse-append}
use Rattle.std.specs.Prelude.{is_some, IsSome, reverse}
use Rattle.std.specs.FinMap.{get, insert, remove, get-insert, get-remove}
use Rattle.ct_keep.specs.declared.undo_logs.OldEntry.{OldEntry}
use Rattle.ct_keep.specs.Content.{Content, set_to}
use Rattle.ct_keep.specs.laws.Content.{same, same_keys, same_content}
use Rattle.ct_keep.specs.Undoing.{old_entry, with_values, without_keys, HaveEntries, replaced_last}
use Rattle.ct_keep.proofs.ContentLaws.{get-insert_here, set_back}

-- ---- contents

removals_swap : (m : Content) (a b : List ℕ) → remove (remove m a) b ≡ remove (remove m b) a
removals_swap m a b = same_content (remove (remove m a) b) (remove (remove m b) a) (λ q.
    get-remove nat_list_cmp_total (remove m a) b q ∙ ap (cond (same q b) None) (get-remove nat_list_cmp_total m a q)
    ∙ either (same q a) (same q b) (get m q)
    ∙ ap (cond (same q a) None) (sym (get-remove nat_list_cmp_total m b q)) ∙ sym (get-remove nat_list_cmp_total (remove m b) a q))
  where
    either : (s t : Bool) (o : Option (List ℕ)) → cond t None (cond s None o) ≡ cond s None (cond t None o)
    either true true o = refl
    either true false o = refl
    either false true o = refl
    either false false o = refl

remove_absent : (m : Content) (k : List ℕ) → get m k ≡ None → remove m k ≡ m
remove_absent m k none = same_content (remove m k) m (λ q. get-remove nat_list_cmp_total m k q ∙ of q (same q k) refl)
  where
    of : (q : List ℕ) (b : Bool) → same q k ≡ b → cond b None (get m q) ≡ get m q
    of q true e = sym (ap (get m) (same_keys q k e) ∙ none)
    of q false e = refl

remove_new : (m : Content) (k v : List ℕ) → get m k ≡ None → remove (insert m k v) k ≡ m
remove_new m k v none = same_content (remove (insert m k v) k) m (λ q.
    get-remove nat_list_cmp_total (insert m k v) k q ∙ ap (cond (same q k) None) (get-insert nat_list_cmp_total m k v q) ∙ of q (same q k) refl)
  where
    of : (q : List ℕ) (b : Bool) → same q k ≡ b → cond b None (cond b (Some v) (get m q)) ≡ get m q
    of q true e = sym (ap (get m) (same_keys q k e) ∙ none)
    of q false e = refl

inserts_swap : (m : Content) (a x b y : List ℕ) → same b a ≡ false → insert (insert m a x) b y ≡ insert (insert m b y) a x
inserts_swap m a x b y apart = same_content (insert (insert m a x) b y) (insert (insert m b y) a x) (λ q.
    get-insert nat_list_cmp_total (insert m a x) b y q ∙ ap (cond (same q b) (Some y)) (get-insert nat_list_cmp_total m a x q)
    ∙ of q (same q b) (same q a) refl refl
    ∙ ap (cond (same q a) (Some x)) (sym (get-insert nat_list_cmp_total m b y q)) ∙ sym (get-insert nat_list_cmp_total (insert m b y) a x q))
  where
    of : (q : List ℕ) (s t : Bool) → same q b ≡ s → same q a ≡ t → cond s (Some y) (cond t (Some x) (get m q)) ≡ cond t (Some x) (cond s (Some y) (get m q))
    of q true true e f = absurd (false≢true (sym apart ∙ ap (λ (k : List ℕ). same k a) (sym (same_keys q b e)) ∙ f))
    of q true false e f = refl
    of q false true e f = refl
    of q false false e f = refl

-- ---- keys that go

keys_more : (ks : List (List ℕ)) (k : List ℕ) (m : Content) → without_keys (ks ++ k ∷ []) m ≡ remove (without_keys ks m) k
keys_more [] k m = refl
keys_more (x ∷ ks) k m = keys_more ks k (remove m x)

without_removed : (ks : List (List ℕ)) (m : Content) (k : List ℕ) → without_keys ks (remove m k) ≡ remove (without_keys ks m) k
without_removed [] m k = refl
without_removed (x ∷ ks) m k = ap (without_keys ks) (removals_swap m k x) ∙ without_removed ks (remove m x) k

-- ---- values that come back

replaced_more : (notes : List OldEntry) (note : OldEntry) → replaced_last (notes ++ note ∷ []) ≡ old_entry note ∷ replaced_last notes
replaced_more notes note = ap reverse (map-append old_entry notes (note ∷ [])) ∙ reverse-append (map old_entry notes) (old_entry note ∷ [])

-- A new entry, of a key that has none, stays beside values that come back.
record StaysBeside (es : List (List ℕ × List ℕ)) (m : Content) (k v : List ℕ) : Type 0 where
  same : with_values es (insert m k v) ≡ insert (with_values es m) k v
  absent : get (with_values es m) k ≡ None
  has : HaveEntries es (insert m k v)

stays_beside : (es : List (List ℕ × List ℕ)) (m : Content) (k v : List ℕ) → HaveEntries es m → get m k ≡ None → StaysBeside es m k v
stays_beside [] m k v has none = record { same = refl; absent = none; has = tt }
stays_beside (e ∷ es) m k v has none =
    let rest = stays_beside es (insert m e.0 e.1) k v has.1 (get-insert nat_list_cmp_total m e.0 e.1 k ∙ ap (λ (b : Bool). cond b (Some e.1) (get m k)) (other k e.0 none has.0) ∙ none) in
    record {
      same = ap (with_values es) swap ∙ rest.same;
      absent = rest.absent;
      has = (subst (λ (o : Option (List ℕ)). IsSome o) (sym (get-insert nat_list_cmp_total m k v e.0)) (still (same e.0 k)), subst (HaveEntries es) (sym swap) rest.has);
    }
  where
    other : (a b : List ℕ) → get m a ≡ None → IsSome (get m b) → same a b ≡ false
    other a b absent there = of (same a b) refl
      where
        of : (t : Bool) → same a b ≡ t → same a b ≡ false
        of true t = absurd (false≢true (ap is_some (sym absent ∙ ap (get m) (same_keys a b t)) ∙ there))
        of false t = t

    other_back : same e.0 k ≡ false
    other_back = of (same e.0 k) refl
      where
        of : (t : Bool) → same e.0 k ≡ t → same e.0 k ≡ false
        of true t = absurd (false≢true (ap is_some (sym none ∙ ap (get m) (sym (same_keys e.0 k t))) ∙ has.0))
        of false t = t

    swap : insert (insert m k v) e.0 e.1 ≡ insert (insert m e.0 e.1) k v
    swap = inserts_swap m k v e.0 e.1 other_back

    still : (b : Bool) → IsSome (cond b (Some v) (get m e.0))
    still true = refl
    still false = has.0

-- ---- logs

-- a value that is replaced is noted
module _ (held : Content) (notes notes' : List OldEntry) (note : OldEntry) (key value : List ℕ) (old_is : get held key ≡ Some note.value.items) (key_is : note.key.items ≡ key) (more : notes' ≡ notes ++ note ∷ []) where
  again : replaced_last notes' ≡ (key, note.value.items) ∷ replaced_last notes
  again = ap replaced_last more ∙ replaced_more notes note ∙ ap (λ (k : List ℕ). (k, note.value.items) ∷ replaced_last notes) key_is

  back : insert (insert held key value) key note.value.items ≡ held
  back = ap (λ (o : Option (List ℕ)). set_to key o (insert held key value)) (sym old_is) ∙ set_back key (Some value) held

  pub replaced_back : with_values (replaced_last notes') (insert held key value) ≡ with_values (replaced_last notes) held
  replaced_back = ap (λ (es : List (List ℕ × List ℕ)). with_values es (insert held key value)) again ∙ ap (with_values (replaced_last notes)) back

  pub replaced_has : HaveEntries (replaced_last notes) held → HaveEntries (replaced_last notes') (insert held key value)
  replaced_has has =
      subst (λ (es : List (List ℕ × List ℕ)). HaveEntries es (insert held key value)) (sym again)
      (subst (λ (o : Option (List ℕ)). IsSome o) (sym (get-insert_here held key value)) refl, subst (HaveEntries (replaced_last notes)) (sym back) has)

-- a new key is noted
module _ (held : Content) (notes : List OldEntry) (added added' : List (List ℕ)) (key value : List ℕ) (has : HaveEntries (replaced_last notes) held) (none : get held key ≡ None) (more : added' ≡ added ++ key ∷ []) where
  beside : StaysBeside (replaced_last notes) held key value
  beside = stays_beside (replaced_last notes) held key value has none

  pub added_back : without_keys added' (with_values (replaced_last notes) (insert held key value)) ≡ without_keys added (with_values (replaced_last notes) held)
  added_back =
      let m = with_values (replaced_last notes) held in
      ap (λ (ks : List (List ℕ)). without_keys ks (with_values (replaced_last notes) (insert held key value))) more
      ∙ ap (without_keys (added ++ key ∷ [])) beside.same ∙ keys_more added key (insert m key value)
      ∙ sym (without_removed added (insert m key value) key) ∙ ap (without_keys added) (remove_new m key value beside.absent)

  -- the same where the entry wasn't added after all
  pub unadded_back : without_keys added' (with_values (replaced_last notes) held) ≡ without_keys added (with_values (replaced_last notes) held)
  unadded_back =
      let m = with_values (replaced_last notes) held in
      ap (λ (ks : List (List ℕ)). without_keys ks m) more ∙ keys_more added key m ∙ sym (without_removed added m key) ∙ ap (without_keys added) (remove_absent m key beside.absent)

  pub added_has : HaveEntries (replaced_last notes) (insert held key value)
  added_has = beside.has
