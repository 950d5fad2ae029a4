-- The steps of reading one after the other.
use Rattle.std.proofs.Common.{ℕ, ◌≡◌, ◌≤◌, List, [], ◌∷◌, ◌++◌, length, map, drop, refl, sym, ap, subst, ◌∙◌, append_assoc, append-nil}
use Rattle.std.proofs.lemmas.List.{drop_all}
use Rattle.ct_keep.specs.Content.{Content}
use Rattle.ct_entry.specs.Keys.{IsToken}
use Rattle.ct_entry.specs.Lists.{EachIs}
use Rattle.ix_posting.specs.Lists.{posting_list}
use Rattle.ix_posting.specs.Forms.{number_form, pair_form}
use Rattle.ix_posting.specs.Rows.{DocumentsRise, WordDocument}
use Rattle.q_tree.specs.declared.flats.PatternBit.{PatternBit}
use Rattle.ix_tokens.specs.Rising.{EachRises}
use Rattle.ix_tokens.specs.Tokens.{KeyRows, HoldsKey, HoldsStream, AreMatchingRows}
use Rattle.ix_search.specs.declared.wanting.Wanted.{Wanted}
use Rattle.ix_search.specs.Parts.{keys_of, patterns_of}
use Rattle.ix_search.specs.Reading.{HoldsTokens, AreRowsOfKeys, AreRowsOfPatterns, IsSlotFeed, AreSlotFeeds, CanBeRead}
use Rattle.ix_cursor.specs.declared.reading.SlotFeed.{SlotFeed}
use Rattle.ix_cursor.specs.declared.reading.SectionFeed.{SectionFeed}
use Rattle.ix_cursor.specs.Reading.{TokensRise, SlotFeedsRise, SectionFeedsRise}

module _ {X Y : Type 0} (P : X → Type 0) (f : X → Y) where
  -- What was read of the first of some that have P is what f makes of them, and the rest is left.
  pub record ReadSoFar (all rest : List X) (ys : List Y) : Type 0 where
    pub rest_too : EachIs P rest
    pub so_far : ys ++ map f rest ≡ map f all

  pub read_on : (all old rest : List X) (x : X) (ys next : List Y) (y : Y) → ReadSoFar all old ys → old ≡ x ∷ rest → (P x → y ≡ f x) → next ≡ ys ++ y ∷ [] → ReadSoFar all rest next
  read_on all old rest x ys next y far is gives grown =
      let each : EachIs P (x ∷ rest) = subst (EachIs P) is far.rest_too in
      record {
        rest_too = each.1;
        so_far =
            ap (λ (l : List Y). l ++ map f rest) grown
            ∙ append_assoc ys (y ∷ []) (map f rest)
            ∙ ap (λ (z : Y). ys ++ z ∷ map f rest) (gives each.0)
            ∙ ap (λ (l : List X). ys ++ map f l) (sym is)
            ∙ far.so_far;
      }

  pub read_ends : (all rest : List X) (ys : List Y) → ReadSoFar all rest ys → rest ≡ [] → ys ≡ map f all
  read_ends all rest ys far none = sym (append-nil ys) ∙ ap (λ (l : List X). ys ++ map f l) (sym none) ∙ far.so_far

pub no_item : {X : Type 0} (xs : List X) (k : ℕ) → length xs ≤ k → drop k xs ≡ []
no_item xs k le = drop_all k xs le

-- ---- what rises does so with one more

pub tokens_rise : (ts next : List (List (List WordDocument))) (rows : List (List WordDocument)) → TokensRise ts → DocumentsRise number_form 0 (posting_list rows) → next ≡ ts ++ rows ∷ [] → TokensRise next
tokens_rise ts next rows rise more grown = subst TokensRise (sym grown) (go ts rise)
  where
    go : (ts : List (List (List WordDocument))) → TokensRise ts → TokensRise (ts ++ rows ∷ [])
    go [] rise = (more, tt)
    go (t ∷ ts) rise = (rise.0, go ts rise.1)

pub slots_rise : (fs next : List SlotFeed) (f : SlotFeed) → SlotFeedsRise fs → TokensRise f.tokens → next ≡ fs ++ f ∷ [] → SlotFeedsRise next
slots_rise fs next f rise more grown = subst SlotFeedsRise (sym grown) (go fs rise)
  where
    go : (fs : List SlotFeed) → SlotFeedsRise fs → SlotFeedsRise (fs ++ f ∷ [])
    go [] rise = (more, tt)
    go (g ∷ gs) rise = (rise.0, go gs rise.1)

pub sections_rise : (fs next : List SectionFeed) (f : SectionFeed) → SectionFeedsRise fs → DocumentsRise pair_form 0 (posting_list f.rows) → next ≡ fs ++ f ∷ [] → SectionFeedsRise next
sections_rise fs next f rise more grown = subst SectionFeedsRise (sym grown) (go fs rise)
  where
    go : (fs : List SectionFeed) → SectionFeedsRise fs → SectionFeedsRise (fs ++ f ∷ [])
    go [] rise = (more, tt)
    go (g ∷ gs) rise = (rise.0, go gs rise.1)

-- ---- rows of patterns

tokens_rise_both : (ts us : List (List (List WordDocument))) → TokensRise ts → EachRises us → TokensRise (ts ++ us)
tokens_rise_both [] [] rise more = tt
tokens_rise_both [] (u ∷ us) rise more = (more.0, tokens_rise_both [] us rise more.1)
tokens_rise_both (t ∷ ts) us rise more = (rise.0, tokens_rise_both ts us rise.1 more)

pub more_rise : (ts us next : List (List (List WordDocument))) → TokensRise ts → EachRises us → next ≡ ts ++ us → TokensRise next
more_rise ts us next rise more grown = subst TokensRise (sym grown) (tokens_rise_both ts us rise more)

all_rise : (ts us : List (List (List WordDocument))) → TokensRise ts → TokensRise us → TokensRise (ts ++ us)
all_rise [] us rise more = more
all_rise (t ∷ ts) us rise more = (rise.0, all_rise ts us rise.1 more)

pub both_rise : (ts us next : List (List (List WordDocument))) → TokensRise ts → TokensRise us → next ≡ ts ++ us → TokensRise next
both_rise ts us next rise more grown = subst TokensRise (sym grown) (all_rise ts us rise more)

-- The rows were read of all patterns but those that are left.
abbrev pub PatternsSoFar : KeyRows → ℕ → List (List PatternBit) → List (List PatternBit) → List (List (List WordDocument)) → Type 0
PatternsSoFar held s all rest tokens = (later : List (List (List WordDocument))) → AreRowsOfPatterns held s rest later → AreRowsOfPatterns held s all (tokens ++ later)

module _ (held : KeyRows) (s : ℕ) (all : List (List PatternBit)) where
  pub patterns_begin : (rest : List (List PatternBit)) (tokens : List (List (List WordDocument))) → rest ≡ all → tokens ≡ [] → PatternsSoFar held s all rest tokens
  patterns_begin rest tokens whole none later are = subst (λ (ts : List (List (List WordDocument))). AreRowsOfPatterns held s all (ts ++ later)) (sym none) (subst (λ (ps : List (List PatternBit)). AreRowsOfPatterns held s ps later) whole are)

  pub patterns_on : (old rest : List (List PatternBit)) (p : List PatternBit) (tokens found next : List (List (List WordDocument))) → PatternsSoFar held s all old tokens → old ≡ p ∷ rest → AreMatchingRows held s p found → next ≡ tokens ++ found → PatternsSoFar held s all rest next
  patterns_on old rest p tokens found next far is own grown later are =
      subst (AreRowsOfPatterns held s all) (sym (append_assoc tokens found later) ∙ sym (ap (λ (ts : List (List (List WordDocument))). ts ++ later) grown))
      (far (found ++ later) (subst (λ (ps : List (List PatternBit)). AreRowsOfPatterns held s ps (found ++ later)) (sym is) (found, later, refl, own, are)))

  pub patterns_end : (rest : List (List PatternBit)) (tokens : List (List (List WordDocument))) → PatternsSoFar held s all rest tokens → rest ≡ [] → AreRowsOfPatterns held s all tokens
  patterns_end rest tokens far none = subst (AreRowsOfPatterns held s all) (append-nil tokens) (far [] (subst (λ (ps : List (List PatternBit)). AreRowsOfPatterns held s ps []) (sym none) refl))

-- ---- slots

-- All slots were read but those that are left, which can be.
pub record SlotsSoFar (held : KeyRows) (all rest : List Wanted) (feeds : List SlotFeed) : Type 0 where
  pub rest_too : EachIs CanBeRead rest
  pub so_far : (later : List SlotFeed) → AreSlotFeeds held rest later → AreSlotFeeds held all (feeds ++ later)

module _ (held : KeyRows) (all : List Wanted) where
  pub slots_begin : (rest : List Wanted) (feeds : List SlotFeed) → rest ≡ all → feeds ≡ [] → EachIs CanBeRead all → SlotsSoFar held all rest feeds
  slots_begin rest feeds whole none each = record {
    rest_too = subst (EachIs CanBeRead) (sym whole) each;
    so_far = λ later are. subst (λ (fs : List SlotFeed). AreSlotFeeds held all (fs ++ later)) (sym none) (subst (λ (ws : List Wanted). AreSlotFeeds held ws later) whole are);
  }

  pub slots_on : (old rest : List Wanted) (w : Wanted) (feeds next : List SlotFeed) (f : SlotFeed) → SlotsSoFar held all old feeds → old ≡ w ∷ rest → (CanBeRead w → IsSlotFeed held w f) → next ≡ feeds ++ f ∷ [] → SlotsSoFar held all rest next
  slots_on old rest w feeds next f far is gives grown =
      let each : EachIs CanBeRead (w ∷ rest) = subst (EachIs CanBeRead) is far.rest_too in
      record {
        rest_too = each.1;
        so_far = λ later are.
            subst (AreSlotFeeds held all) (sym (append_assoc feeds (f ∷ []) later) ∙ sym (ap (λ (fs : List SlotFeed). fs ++ later) grown))
            (far.so_far (f ∷ later) (subst (λ (ws : List Wanted). AreSlotFeeds held ws (f ∷ later)) (sym is) (gives each.0, are)));
      }

  pub slots_end : (rest : List Wanted) (feeds : List SlotFeed) → SlotsSoFar held all rest feeds → rest ≡ [] → AreSlotFeeds held all feeds
  slots_end rest feeds far none = subst (AreSlotFeeds held all) (append-nil feeds) (far.so_far [] (subst (λ (ws : List Wanted). AreSlotFeeds held ws []) (sym none) tt))

-- ---- one slot

keys_hold : (m : Content) (i : List ℕ) (s : ℕ) (held : KeyRows) (keys : List (List ℕ)) → HoldsStream m i s held → EachIs IsToken keys → EachIs (λ key. HoldsKey m i s key (held s key)) keys
keys_hold m i s held [] holds tokens = tt
keys_hold m i s held (k ∷ ks) holds tokens = (holds k tokens.0, keys_hold m i s held ks holds tokens.1)

-- what was read of the keys and of the patterns of a slot is what is read of the slot
pub slot_is : (m : Content) (i : List ℕ) (held : KeyRows) (w : Wanted) (keys : List (List ℕ)) (patterns : List (List PatternBit)) (tokens found all : List (List (List WordDocument))) → HoldsTokens m i held → CanBeRead w → keys ≡ keys_of w.slot → patterns ≡ patterns_of w.slot
    → AreRowsOfKeys m i w.stream keys tokens → (HoldsStream m i w.stream held → AreRowsOfPatterns held w.stream patterns found) → all ≡ tokens ++ found → IsSlotFeed held w (record { stream = w.stream; slot = w.slot; tokens = all })
slot_is m i held w keys patterns tokens found all holds can keys_are patterns_are by_keys by_patterns whole =
    let stream = holds w.stream can.stream in
    record {
      stream = refl;
      slot = refl;
      by_patterns = found;
      tokens = whole
          ∙ ap (λ (ts : List (List (List WordDocument))). ts ++ found) (by_keys (held w.stream) (keys_hold m i w.stream held keys stream (subst (EachIs IsToken) (sym keys_are) can.keys)) ∙ ap (map (held w.stream)) keys_are);
      are = subst (λ (ps : List (List PatternBit)). AreRowsOfPatterns held w.stream ps found) patterns_are (by_patterns stream);
    }
