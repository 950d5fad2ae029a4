-- The steps by which an index is tidy no more.
use Rattle.std.proofs.Common.{cond, ◌≡◌, ℕ, ◌+◌, Bool, true, false, List, [], ◌∷◌, ◌++◌, length, Option, Some, refl, sym, ap, subst, ◌∙◌, append-nil, arith, length-append}
use Rattle.std.specs.Option.{option_map}
use Rattle.std.specs.Int.{to_be_bytes, w32}
use Rattle.ct_bytes.specs.Varints.{text_bytes}
use Rattle.ct_entry.specs.declared.kinds.Kind.TheVariants as kind
use Rattle.ct_entry.specs.Keys.{Key, key}
use Rattle.ct_entry.specs.Changes.{put_value, spell}
use Rattle.tx_settings.specs.declared.preferences.Prefs.{Prefs}
use Rattle.tx_settings.specs.PrefsBytes.{prefs_bytes}
use Rattle.ix_kinds.specs.Indextypes.{IndexOf, untidied_index}
use Rattle.ix_kinds.specs.Standing.{index_entry}
use Rattle.ix_kinds.specs.Statements.{untidying_in, place_of}
use Rattle.ix_kinds.specs.laws.Standing.{place_is}
use Rattle.ix_rows.specs.Stores.{Untidy}
use Rattle.ix_context.specs.declared.entries.IndexEntry.{IndexEntry}
use Rattle.ix_context.specs.Indexes.{ContextIndex}
use Rattle.ix_context.specs.Places.{is_tidy, tidiness_of, place_bytes, end_bytes}
use Rattle.ix_context.specs.Spelling.{with_end, after_table, index_change, SpellsIndex}
use Rattle.ix_context.specs.Contexts.{context, context_entry, context_untidied}
use Rattle.ix_context.specs.Contents.{HasContextEntry, target_of}
use Rattle.ix_context.specs.Untidying.{AddsAsLong}
use Rattle.ix_context.specs.laws.ContextRows.{entry_is, has_entry}
use Rattle.ix_context.specs.laws.Reading.{IsReadAs}

abbrev Changes : Type 0
Changes = List (List ℕ × Option (List ℕ))

-- ---- how long an entry is

end_long : (t : List ℕ) (c : ℕ) (p : Prefs) (n : ℕ) (end other : List ℕ) → length end ≡ length other → length (with_end t c p n end) ≡ length (with_end t c p n other)
end_long t c p n end other long =
    let first = length-append (text_bytes t) (after_table c p n end) in
    let second = length-append (text_bytes t) (after_table c p n other) in
    let before = length-append (prefs_bytes p) (0 ∷ (to_be_bytes w32 n ++ end)) in
    let after = length-append (prefs_bytes p) (0 ∷ (to_be_bytes w32 n ++ other)) in
    omega (arith, first, second, before, after, long)

-- the entry that is put is as long as the one that was read
pub adds_as_long : (f : Key → Option (List ℕ)) (i : List ℕ) (e : IndexEntry) (o : Option IndexEntry) (old new : Changes) → o ≡ Some e → SpellsIndex (f (key kind.Indexes i [])) o
    → new ≡ old ++ spell (index_change i e.target e.prefs e.next_document Untidy (place_bytes e.place) ∷ []) → AddsAsLong f old new
adds_as_long f i e o old new is spells adds =
    let read = subst (SpellsIndex (f (key kind.Indexes i []))) is spells in
    record {
      changes = index_change i e.target e.prefs e.next_document Untidy (place_bytes e.place) ∷ [];
      adds = adds;
      long = (
        sym (ap (option_map (λ (v : List ℕ). length v)) read.5
            ∙ ap Some (end_long e.target.table e.target.column e.prefs e.next_document (end_bytes (tidiness_of e.tidiness) (place_bytes e.place)) (end_bytes Untidy (place_bytes e.place)) refl)),
        tt,
      );
    }

pub adds_nothing : (f : Key → Option (List ℕ)) (old : Changes) → AddsAsLong f old old
adds_nothing f old = record { changes = []; adds = sym (append-nil old); long = tt }

-- ---- what is put

untidying_by : (f : Key → Option (List ℕ)) (i : List ℕ) (x : IndexOf ContextIndex) (has : HasContextEntry f i x) (b : Bool) → is_tidy x.body.part.tidiness ≡ b
    → untidying_in (context {D = Unit {0}}) f i (Some x) ≡ cond b (index_change i (target_of x) x.prefs (x.body.part.given + 1) Untidy has.place ∷ []) []
untidying_by f i x has b is =
    let entry : index_entry (context {D = Unit {0}}) (untidied_index (context {D = Unit {0}}) x) (place_of (context {D = Unit {0}}) f i x) ≡ context_entry (record x { body = context_untidied x.body }) has.place =
    ap (index_entry (context {D = Unit {0}}) (untidied_index (context {D = Unit {0}}) x)) (place_is (context {D = Unit {0}}) f i x (has_entry (Unit {0}) f i x has))
    ∙ sym (entry_is (Unit {0}) (record x { body = context_untidied x.body }) has.place) in
    ap (λ (tidy : Bool). cond tidy (put_value (key kind.Indexes i []) (index_entry (context {D = Unit {0}}) (untidied_index (context {D = Unit {0}}) x) (place_of (context {D = Unit {0}}) f i x)) ∷ []) []) is
    ∙ ap (λ (v : List ℕ). cond b (put_value (key kind.Indexes i []) v ∷ []) []) entry

-- nothing, where the entry says that the index is untidy
pub untidied_none : (f : Key → Option (List ℕ)) (i : List ℕ) (x : IndexOf ContextIndex) (has : HasContextEntry f i x) (e : IndexEntry) → IsReadAs x has.place e → is_tidy (tidiness_of e.tidiness) ≡ false → (old : Changes)
    → old ≡ old ++ spell (untidying_in (context {D = Unit {0}}) f i (Some x))
untidied_none f i x has e read loose old =
    sym (append-nil old) ∙ ap (λ (ws : List (Key × Option (List ℕ))). old ++ spell ws) (sym (untidying_by f i x has false (ap is_tidy (sym read.tidiness) ∙ loose)))

-- the entry that was read, else
pub untidied_some : (f : Key → Option (List ℕ)) (i : List ℕ) (x : IndexOf ContextIndex) (has : HasContextEntry f i x) (e : IndexEntry) → IsReadAs x has.place e → is_tidy (tidiness_of e.tidiness) ≡ true → (old new : Changes)
    → new ≡ old ++ spell (index_change i e.target e.prefs e.next_document Untidy (place_bytes e.place) ∷ []) → new ≡ old ++ spell (untidying_in (context {D = Unit {0}}) f i (Some x))
untidied_some f i x has e read tidy old new adds =
    adds ∙ ap (λ (w : Key × Option (List ℕ)). old ++ spell (w ∷ [])) same ∙ ap (λ (ws : List (Key × Option (List ℕ))). old ++ spell ws) (sym (untidying_by f i x has true (ap is_tidy (sym read.tidiness) ∙ tidy)))
  where
    same : index_change i e.target e.prefs e.next_document Untidy (place_bytes e.place) ≡ index_change i (target_of x) x.prefs (x.body.part.given + 1) Untidy has.place
    same = λ j. index_change i (read.target j) (read.prefs j) (read.next j) Untidy (read.place j)
