-- What follows each tag.
use Rattle.std.proofs.Common.{◌≡◌, ℕ, ◌+◌, ◌*◌, ◌<◌, ◌≤◌, Bool, true, List, [], ◌∷◌, ◌++◌, length, refl, sym, ◌∙◌, subst, arith}
use Rattle.std.specs.Prelude.{◌/◌, ◌%◌}
use Rattle.std.proofs.lemmas.Bool.{and_parts, and_from}
use Rattle.ct_base.specs.Names.{is_kept}
use Rattle.ct_bytes.specs.Varints.{text_bytes}
use Rattle.ct_bytes.specs.laws.Varints.{text_apart}
use Rattle.tx_settings.specs.PrefsBytes.{IsSpeltAt, NoneStands, Stands, always, are_listed, is_short, is_text, listed}
use Rattle.tx_settings.specs.PrefsPromises.{NoneBegins}
use Rattle.tx_settings.specs.laws.Apart.{listed_apart}
use Rattle.tx_settings.specs.laws.Standing.{first_at, joined_at, nothing_at, same_at, second_at}
use Rattle.q_tree.specs.declared.flats.PatternBit.{PatternBit}
use Rattle.q_tree.specs.declared.flats.PatternBit.TheVariants.{Chars, One, Many}
use Rattle.q_tree.specs.declared.flats.Slot.{Slot}
use Rattle.q_tree.specs.declared.flats.Slot.TheVariants.{Any, Takes}
use Rattle.q_tree.specs.declared.flats.Place.{Place}
use Rattle.q_tree.specs.declared.flats.Place.TheVariants.{Zone, Field, Sentence, Paragraph}
use Rattle.q_tree.specs.declared.flats.SumStep.{SumStep}
use Rattle.q_tree.specs.declared.flats.SumStep.TheVariants.{Number, Discrete, Occurrence, Plus, Minus as Less, Times}
use Rattle.q_tree.specs.declared.queries.Op.TheVariants.{And, Or, Not, Minus}
use Rattle.q_stored.specs.declared.heads.Head.{Head}
use Rattle.q_stored.specs.declared.heads.Head.TheVariants.{Term, Both, Weight, Above, Near, Within, Define}
use Rattle.q_stored.specs.QueryBytes.{bit_body, bit_tag, is_written_bit, pattern_spelling, is_written_pattern, slot_body, slot_tag, is_written_slot, term_spelling, is_written_term, place_body, place_spelling, place_tag, is_written_place, step_body, step_spelling, step_tag, is_written_step, order_byte, head_body, head_tag, is_written_head}
use Rattle.q_stored.specs.Reading.{BodyStands, byte_spelling, order_spelling}
use Rattle.q_stored.specs.laws.Apart.{byte_apart, order_apart, terms_apart}

-- ---- one part after another

-- where the first part doesn't stand
none_first : {X : Type 0} (rule : X → Bool) (item : X → List ℕ) (bytes : List ℕ) (at : ℕ) (x : X) (s : List ℕ) (next : ℕ) → NoneStands rule item bytes at → rule x ≡ true → IsSpeltAt bytes at (item x ++ s) next → ⊥
none_first rule item bytes at x s next none rules is = none x (at + length (item x)) (record { rules = rules; spelt = first_at bytes at (item x) s next is })

-- the first part that stands there, and where the second one stands
record Parts {X : Type 0} (bytes : List ℕ) (mid : ℕ) (x y : X) (s : List ℕ) (next : ℕ) : Type 0 where
  same : x ≡ y
  second : IsSpeltAt bytes mid s next

parts_at : {X : Type 0} (rule : X → Bool) (item : X → List ℕ) → NoneBegins item → (bytes : List ℕ) (at : ℕ) (x : X) (mid : ℕ) (y : X) (s : List ℕ) (next : ℕ) → Stands rule item bytes at x mid → IsSpeltAt bytes at (item y ++ s) next → Parts bytes mid x y s next
parts_at rule item apart bytes at x mid y s next first is =
    let same = same_at item apart bytes at x mid y (at + length (item y)) first.spelt (first_at bytes at (item y) s next is) in
    record { same = same.0; second = subst (λ (n : ℕ). IsSpeltAt bytes n s next) (sym same.1) (second_at bytes at (item y) s next is) }

-- ---- pieces of patterns

module _ (bytes : List ℕ) (at : ℕ) where
  pub no_chars : NoneStands is_text text_bytes bytes at → (x : PatternBit) (next : ℕ) → BodyStands is_written_bit bit_tag bit_body 1 bytes at x next → ⊥
  no_chars none (Chars text) next b = none text next (record { rules = b.rules; spelt = b.spelt })
  no_chars none One next b = let wrong : ◌≡◌ {A = ℕ} 2 1 = b.tagged in absurd (omega (arith, wrong))
  no_chars none Many next b = let wrong : ◌≡◌ {A = ℕ} 3 1 = b.tagged in absurd (omega (arith, wrong))

  pub no_bit : (t : ℕ) → (t ≡ 1 → ⊥) → (t ≡ 2 → ⊥) → (t ≡ 3 → ⊥) → (x : PatternBit) (next : ℕ) → BodyStands is_written_bit bit_tag bit_body t bytes at x next → ⊥
  no_bit t h1 h2 h3 (Chars text) next b = h1 (sym b.tagged)
  no_bit t h1 h2 h3 One next b = h2 (sym b.tagged)
  no_bit t h1 h2 h3 Many next b = h3 (sym b.tagged)

-- ---- slots

module _ (bytes : List ℕ) (at : ℕ) where
  pub no_keys : NoneStands (are_listed is_short) (listed text_bytes) bytes at → (x : Slot) (next : ℕ) → BodyStands is_written_slot slot_tag slot_body 1 bytes at x next → ⊥
  no_keys none Any next b = let wrong : ◌≡◌ {A = ℕ} 0 1 = b.tagged in absurd (omega (arith, wrong))
  no_keys none (Takes keys patterns) next b = none_first (are_listed is_short) (listed text_bytes) bytes at keys (listed pattern_spelling patterns) next none (and_parts (are_listed is_short keys) (are_listed is_written_pattern patterns) b.rules).0 b.spelt

  pub no_patterns : (keys : List (List ℕ)) (mid : ℕ) → Stands (are_listed is_short) (listed text_bytes) bytes at keys mid → NoneStands (are_listed is_written_pattern) (listed pattern_spelling) bytes mid → (x : Slot) (next : ℕ) → BodyStands is_written_slot slot_tag slot_body 1 bytes at x next → ⊥
  no_patterns read mid first none Any next b = let wrong : ◌≡◌ {A = ℕ} 0 1 = b.tagged in absurd (omega (arith, wrong))
  no_patterns read mid first none (Takes keys patterns) next b =
      let parts = parts_at (are_listed is_short) (listed text_bytes) (listed_apart text_bytes text_apart) bytes at read mid keys (listed pattern_spelling patterns) next first b.spelt in
      none patterns next (record { rules = (and_parts (are_listed is_short keys) (are_listed is_written_pattern patterns) b.rules).1; spelt = parts.second })

  pub no_slot : (t : ℕ) → (t ≡ 0 → ⊥) → (t ≡ 1 → ⊥) → (x : Slot) (next : ℕ) → BodyStands is_written_slot slot_tag slot_body t bytes at x next → ⊥
  no_slot t h0 h1 Any next b = h0 (sym b.tagged)
  no_slot t h0 h1 (Takes keys patterns) next b = h1 (sym b.tagged)

-- ---- places

module _ (bytes : List ℕ) (at : ℕ) where
  pub no_zone : NoneStands is_kept text_bytes bytes at → (x : Place) (next : ℕ) → BodyStands is_written_place place_tag place_body 1 bytes at x next → ⊥
  no_zone none (Zone name) next b = none name next (record { rules = b.rules; spelt = b.spelt })
  no_zone none (Field stream) next b = let wrong : ◌≡◌ {A = ℕ} 2 1 = b.tagged in absurd (omega (arith, wrong))
  no_zone none Sentence next b = let wrong : ◌≡◌ {A = ℕ} 3 1 = b.tagged in absurd (omega (arith, wrong))
  no_zone none Paragraph next b = let wrong : ◌≡◌ {A = ℕ} 4 1 = b.tagged in absurd (omega (arith, wrong))

  pub no_stream : NoneStands always byte_spelling bytes at → (x : Place) (next : ℕ) → BodyStands is_written_place place_tag place_body 2 bytes at x next → ⊥
  no_stream none (Zone name) next b = let wrong : ◌≡◌ {A = ℕ} 1 2 = b.tagged in absurd (omega (arith, wrong))
  no_stream none (Field stream) next b = none stream next (record { rules = refl; spelt = b.spelt })
  no_stream none Sentence next b = let wrong : ◌≡◌ {A = ℕ} 3 2 = b.tagged in absurd (omega (arith, wrong))
  no_stream none Paragraph next b = let wrong : ◌≡◌ {A = ℕ} 4 2 = b.tagged in absurd (omega (arith, wrong))

  pub no_place : (t : ℕ) → (t ≡ 1 → ⊥) → (t ≡ 2 → ⊥) → (t ≡ 3 → ⊥) → (t ≡ 4 → ⊥) → (x : Place) (next : ℕ) → BodyStands is_written_place place_tag place_body t bytes at x next → ⊥
  no_place t h1 h2 h3 h4 (Zone name) next b = h1 (sym b.tagged)
  no_place t h1 h2 h3 h4 (Field stream) next b = h2 (sym b.tagged)
  no_place t h1 h2 h3 h4 Sentence next b = h3 (sym b.tagged)
  no_place t h1 h2 h3 h4 Paragraph next b = h4 (sym b.tagged)

-- ---- steps

module _ (bytes : List ℕ) (at : ℕ) where
  pub no_high : NoneStands always byte_spelling bytes at → (x : SumStep) (next : ℕ) → BodyStands is_written_step step_tag step_body 1 bytes at x next → ⊥
  no_high none (Number n) next b = none_first always byte_spelling bytes at (n / 256) (n % 256 ∷ []) next none refl b.spelt
  no_high none Discrete next b = let wrong : ◌≡◌ {A = ℕ} 2 1 = b.tagged in absurd (omega (arith, wrong))
  no_high none Occurrence next b = let wrong : ◌≡◌ {A = ℕ} 3 1 = b.tagged in absurd (omega (arith, wrong))
  no_high none Plus next b = let wrong : ◌≡◌ {A = ℕ} 4 1 = b.tagged in absurd (omega (arith, wrong))
  no_high none Less next b = let wrong : ◌≡◌ {A = ℕ} 5 1 = b.tagged in absurd (omega (arith, wrong))
  no_high none Times next b = let wrong : ◌≡◌ {A = ℕ} 6 1 = b.tagged in absurd (omega (arith, wrong))

  pub no_low : (high mid : ℕ) → Stands always byte_spelling bytes at high mid → NoneStands always byte_spelling bytes mid → (x : SumStep) (next : ℕ) → BodyStands is_written_step step_tag step_body 1 bytes at x next → ⊥
  no_low high mid first none (Number n) next b =
      let parts = parts_at always byte_spelling byte_apart bytes at high mid (n / 256) (n % 256 ∷ []) next first b.spelt in
      none (n % 256) next (record { rules = refl; spelt = parts.second })
  no_low high mid first none Discrete next b = let wrong : ◌≡◌ {A = ℕ} 2 1 = b.tagged in absurd (omega (arith, wrong))
  no_low high mid first none Occurrence next b = let wrong : ◌≡◌ {A = ℕ} 3 1 = b.tagged in absurd (omega (arith, wrong))
  no_low high mid first none Plus next b = let wrong : ◌≡◌ {A = ℕ} 4 1 = b.tagged in absurd (omega (arith, wrong))
  no_low high mid first none Less next b = let wrong : ◌≡◌ {A = ℕ} 5 1 = b.tagged in absurd (omega (arith, wrong))
  no_low high mid first none Times next b = let wrong : ◌≡◌ {A = ℕ} 6 1 = b.tagged in absurd (omega (arith, wrong))

  pub no_step : (t : ℕ) → (t ≡ 1 → ⊥) → (t ≡ 2 → ⊥) → (t ≡ 3 → ⊥) → (t ≡ 4 → ⊥) → (t ≡ 5 → ⊥) → (t ≡ 6 → ⊥) → (x : SumStep) (next : ℕ) → BodyStands is_written_step step_tag step_body t bytes at x next → ⊥
  no_step t h1 h2 h3 h4 h5 h6 (Number n) next b = h1 (sym b.tagged)
  no_step t h1 h2 h3 h4 h5 h6 Discrete next b = h2 (sym b.tagged)
  no_step t h1 h2 h3 h4 h5 h6 Occurrence next b = h3 (sym b.tagged)
  no_step t h1 h2 h3 h4 h5 h6 Plus next b = h4 (sym b.tagged)
  no_step t h1 h2 h3 h4 h5 h6 Less next b = h5 (sym b.tagged)
  no_step t h1 h2 h3 h4 h5 h6 Times next b = h6 (sym b.tagged)

-- ---- heads

module _ (bytes : List ℕ) (at : ℕ) where
  pub no_term : NoneStands is_written_term term_spelling bytes at → (x : Head) (next : ℕ) → BodyStands is_written_head head_tag head_body 1 bytes at x next → ⊥
  no_term none (Term phrases) next b = none phrases next (record { rules = b.rules; spelt = b.spelt })
  no_term none (Both And) next b = let wrong : ◌≡◌ {A = ℕ} 2 1 = b.tagged in absurd (omega (arith, wrong))
  no_term none (Both Or) next b = let wrong : ◌≡◌ {A = ℕ} 3 1 = b.tagged in absurd (omega (arith, wrong))
  no_term none (Both Not) next b = let wrong : ◌≡◌ {A = ℕ} 4 1 = b.tagged in absurd (omega (arith, wrong))
  no_term none (Both Minus) next b = let wrong : ◌≡◌ {A = ℕ} 5 1 = b.tagged in absurd (omega (arith, wrong))
  no_term none (Weight tenths) next b = let wrong : ◌≡◌ {A = ℕ} 6 1 = b.tagged in absurd (omega (arith, wrong))
  no_term none (Above n) next b = let wrong : ◌≡◌ {A = ℕ} 7 1 = b.tagged in absurd (omega (arith, wrong))
  no_term none (Near operands span ordered) next b = let wrong : ◌≡◌ {A = ℕ} 8 1 = b.tagged in absurd (omega (arith, wrong))
  no_term none (Within place) next b = let wrong : ◌≡◌ {A = ℕ} 9 1 = b.tagged in absurd (omega (arith, wrong))
  no_term none (Define phrases sum) next b = let wrong : ◌≡◌ {A = ℕ} 10 1 = b.tagged in absurd (omega (arith, wrong))

  pub no_weight : NoneStands always byte_spelling bytes at → (x : Head) (next : ℕ) → BodyStands is_written_head head_tag head_body 6 bytes at x next → ⊥
  no_weight none (Term phrases) next b = let wrong : ◌≡◌ {A = ℕ} 1 6 = b.tagged in absurd (omega (arith, wrong))
  no_weight none (Both And) next b = let wrong : ◌≡◌ {A = ℕ} 2 6 = b.tagged in absurd (omega (arith, wrong))
  no_weight none (Both Or) next b = let wrong : ◌≡◌ {A = ℕ} 3 6 = b.tagged in absurd (omega (arith, wrong))
  no_weight none (Both Not) next b = let wrong : ◌≡◌ {A = ℕ} 4 6 = b.tagged in absurd (omega (arith, wrong))
  no_weight none (Both Minus) next b = let wrong : ◌≡◌ {A = ℕ} 5 6 = b.tagged in absurd (omega (arith, wrong))
  no_weight none (Weight tenths) next b = none tenths next (record { rules = refl; spelt = b.spelt })
  no_weight none (Above n) next b = let wrong : ◌≡◌ {A = ℕ} 7 6 = b.tagged in absurd (omega (arith, wrong))
  no_weight none (Near operands span ordered) next b = let wrong : ◌≡◌ {A = ℕ} 8 6 = b.tagged in absurd (omega (arith, wrong))
  no_weight none (Within place) next b = let wrong : ◌≡◌ {A = ℕ} 9 6 = b.tagged in absurd (omega (arith, wrong))
  no_weight none (Define phrases sum) next b = let wrong : ◌≡◌ {A = ℕ} 10 6 = b.tagged in absurd (omega (arith, wrong))

  pub no_threshold : NoneStands always byte_spelling bytes at → (x : Head) (next : ℕ) → BodyStands is_written_head head_tag head_body 7 bytes at x next → ⊥
  no_threshold none (Term phrases) next b = let wrong : ◌≡◌ {A = ℕ} 1 7 = b.tagged in absurd (omega (arith, wrong))
  no_threshold none (Both And) next b = let wrong : ◌≡◌ {A = ℕ} 2 7 = b.tagged in absurd (omega (arith, wrong))
  no_threshold none (Both Or) next b = let wrong : ◌≡◌ {A = ℕ} 3 7 = b.tagged in absurd (omega (arith, wrong))
  no_threshold none (Both Not) next b = let wrong : ◌≡◌ {A = ℕ} 4 7 = b.tagged in absurd (omega (arith, wrong))
  no_threshold none (Both Minus) next b = let wrong : ◌≡◌ {A = ℕ} 5 7 = b.tagged in absurd (omega (arith, wrong))
  no_threshold none (Weight tenths) next b = let wrong : ◌≡◌ {A = ℕ} 6 7 = b.tagged in absurd (omega (arith, wrong))
  no_threshold none (Above n) next b = none n next (record { rules = refl; spelt = b.spelt })
  no_threshold none (Near operands span ordered) next b = let wrong : ◌≡◌ {A = ℕ} 8 7 = b.tagged in absurd (omega (arith, wrong))
  no_threshold none (Within place) next b = let wrong : ◌≡◌ {A = ℕ} 9 7 = b.tagged in absurd (omega (arith, wrong))
  no_threshold none (Define phrases sum) next b = let wrong : ◌≡◌ {A = ℕ} 10 7 = b.tagged in absurd (omega (arith, wrong))

  pub no_span : NoneStands always byte_spelling bytes at → (x : Head) (next : ℕ) → BodyStands is_written_head head_tag head_body 8 bytes at x next → ⊥
  no_span none (Term phrases) next b = let wrong : ◌≡◌ {A = ℕ} 1 8 = b.tagged in absurd (omega (arith, wrong))
  no_span none (Both And) next b = let wrong : ◌≡◌ {A = ℕ} 2 8 = b.tagged in absurd (omega (arith, wrong))
  no_span none (Both Or) next b = let wrong : ◌≡◌ {A = ℕ} 3 8 = b.tagged in absurd (omega (arith, wrong))
  no_span none (Both Not) next b = let wrong : ◌≡◌ {A = ℕ} 4 8 = b.tagged in absurd (omega (arith, wrong))
  no_span none (Both Minus) next b = let wrong : ◌≡◌ {A = ℕ} 5 8 = b.tagged in absurd (omega (arith, wrong))
  no_span none (Weight tenths) next b = let wrong : ◌≡◌ {A = ℕ} 6 8 = b.tagged in absurd (omega (arith, wrong))
  no_span none (Above n) next b = let wrong : ◌≡◌ {A = ℕ} 7 8 = b.tagged in absurd (omega (arith, wrong))
  no_span none (Near operands span ordered) next b = none_first always byte_spelling bytes at span (order_byte ordered ∷ listed term_spelling operands) next none refl b.spelt
  no_span none (Within place) next b = let wrong : ◌≡◌ {A = ℕ} 9 8 = b.tagged in absurd (omega (arith, wrong))
  no_span none (Define phrases sum) next b = let wrong : ◌≡◌ {A = ℕ} 10 8 = b.tagged in absurd (omega (arith, wrong))

  pub no_order_there : (read mid : ℕ) → Stands always byte_spelling bytes at read mid → NoneStands always order_spelling bytes mid → (x : Head) (next : ℕ) → BodyStands is_written_head head_tag head_body 8 bytes at x next → ⊥
  no_order_there read mid first none (Term phrases) next b = let wrong : ◌≡◌ {A = ℕ} 1 8 = b.tagged in absurd (omega (arith, wrong))
  no_order_there read mid first none (Both And) next b = let wrong : ◌≡◌ {A = ℕ} 2 8 = b.tagged in absurd (omega (arith, wrong))
  no_order_there read mid first none (Both Or) next b = let wrong : ◌≡◌ {A = ℕ} 3 8 = b.tagged in absurd (omega (arith, wrong))
  no_order_there read mid first none (Both Not) next b = let wrong : ◌≡◌ {A = ℕ} 4 8 = b.tagged in absurd (omega (arith, wrong))
  no_order_there read mid first none (Both Minus) next b = let wrong : ◌≡◌ {A = ℕ} 5 8 = b.tagged in absurd (omega (arith, wrong))
  no_order_there read mid first none (Weight tenths) next b = let wrong : ◌≡◌ {A = ℕ} 6 8 = b.tagged in absurd (omega (arith, wrong))
  no_order_there read mid first none (Above n) next b = let wrong : ◌≡◌ {A = ℕ} 7 8 = b.tagged in absurd (omega (arith, wrong))
  no_order_there read mid first none (Near operands span ordered) next b =
      let parts = parts_at always byte_spelling byte_apart bytes at read mid span (order_byte ordered ∷ listed term_spelling operands) next first b.spelt in
      none_first always order_spelling bytes mid ordered (listed term_spelling operands) next none refl parts.second
  no_order_there read mid first none (Within place) next b = let wrong : ◌≡◌ {A = ℕ} 9 8 = b.tagged in absurd (omega (arith, wrong))
  no_order_there read mid first none (Define phrases sum) next b = let wrong : ◌≡◌ {A = ℕ} 10 8 = b.tagged in absurd (omega (arith, wrong))

  pub no_operands : (read mid : ℕ) (order : Bool) (start : ℕ) → Stands always byte_spelling bytes at read mid → Stands always order_spelling bytes mid order start → NoneStands (are_listed is_written_term) (listed term_spelling) bytes start → (x : Head) (next : ℕ) → BodyStands is_written_head head_tag head_body 8 bytes at x next → ⊥
  no_operands read mid order start first second none (Term phrases) next b = let wrong : ◌≡◌ {A = ℕ} 1 8 = b.tagged in absurd (omega (arith, wrong))
  no_operands read mid order start first second none (Both And) next b = let wrong : ◌≡◌ {A = ℕ} 2 8 = b.tagged in absurd (omega (arith, wrong))
  no_operands read mid order start first second none (Both Or) next b = let wrong : ◌≡◌ {A = ℕ} 3 8 = b.tagged in absurd (omega (arith, wrong))
  no_operands read mid order start first second none (Both Not) next b = let wrong : ◌≡◌ {A = ℕ} 4 8 = b.tagged in absurd (omega (arith, wrong))
  no_operands read mid order start first second none (Both Minus) next b = let wrong : ◌≡◌ {A = ℕ} 5 8 = b.tagged in absurd (omega (arith, wrong))
  no_operands read mid order start first second none (Weight tenths) next b = let wrong : ◌≡◌ {A = ℕ} 6 8 = b.tagged in absurd (omega (arith, wrong))
  no_operands read mid order start first second none (Above n) next b = let wrong : ◌≡◌ {A = ℕ} 7 8 = b.tagged in absurd (omega (arith, wrong))
  no_operands read mid order start first second none (Near operands span ordered) next b =
      let parts = parts_at always byte_spelling byte_apart bytes at read mid span (order_byte ordered ∷ listed term_spelling operands) next first b.spelt in
      let more = parts_at always order_spelling order_apart bytes mid order start ordered (listed term_spelling operands) next second parts.second in
      none operands next (record { rules = b.rules; spelt = more.second })
  no_operands read mid order start first second none (Within place) next b = let wrong : ◌≡◌ {A = ℕ} 9 8 = b.tagged in absurd (omega (arith, wrong))
  no_operands read mid order start first second none (Define phrases sum) next b = let wrong : ◌≡◌ {A = ℕ} 10 8 = b.tagged in absurd (omega (arith, wrong))

  pub no_place_there : NoneStands is_written_place place_spelling bytes at → (x : Head) (next : ℕ) → BodyStands is_written_head head_tag head_body 9 bytes at x next → ⊥
  no_place_there none (Term phrases) next b = let wrong : ◌≡◌ {A = ℕ} 1 9 = b.tagged in absurd (omega (arith, wrong))
  no_place_there none (Both And) next b = let wrong : ◌≡◌ {A = ℕ} 2 9 = b.tagged in absurd (omega (arith, wrong))
  no_place_there none (Both Or) next b = let wrong : ◌≡◌ {A = ℕ} 3 9 = b.tagged in absurd (omega (arith, wrong))
  no_place_there none (Both Not) next b = let wrong : ◌≡◌ {A = ℕ} 4 9 = b.tagged in absurd (omega (arith, wrong))
  no_place_there none (Both Minus) next b = let wrong : ◌≡◌ {A = ℕ} 5 9 = b.tagged in absurd (omega (arith, wrong))
  no_place_there none (Weight tenths) next b = let wrong : ◌≡◌ {A = ℕ} 6 9 = b.tagged in absurd (omega (arith, wrong))
  no_place_there none (Above n) next b = let wrong : ◌≡◌ {A = ℕ} 7 9 = b.tagged in absurd (omega (arith, wrong))
  no_place_there none (Near operands span ordered) next b = let wrong : ◌≡◌ {A = ℕ} 8 9 = b.tagged in absurd (omega (arith, wrong))
  no_place_there none (Within place) next b = none place next (record { rules = b.rules; spelt = b.spelt })
  no_place_there none (Define phrases sum) next b = let wrong : ◌≡◌ {A = ℕ} 10 9 = b.tagged in absurd (omega (arith, wrong))

  pub no_phrases : NoneStands is_written_term term_spelling bytes at → (x : Head) (next : ℕ) → BodyStands is_written_head head_tag head_body 10 bytes at x next → ⊥
  no_phrases none (Term phrases) next b = let wrong : ◌≡◌ {A = ℕ} 1 10 = b.tagged in absurd (omega (arith, wrong))
  no_phrases none (Both And) next b = let wrong : ◌≡◌ {A = ℕ} 2 10 = b.tagged in absurd (omega (arith, wrong))
  no_phrases none (Both Or) next b = let wrong : ◌≡◌ {A = ℕ} 3 10 = b.tagged in absurd (omega (arith, wrong))
  no_phrases none (Both Not) next b = let wrong : ◌≡◌ {A = ℕ} 4 10 = b.tagged in absurd (omega (arith, wrong))
  no_phrases none (Both Minus) next b = let wrong : ◌≡◌ {A = ℕ} 5 10 = b.tagged in absurd (omega (arith, wrong))
  no_phrases none (Weight tenths) next b = let wrong : ◌≡◌ {A = ℕ} 6 10 = b.tagged in absurd (omega (arith, wrong))
  no_phrases none (Above n) next b = let wrong : ◌≡◌ {A = ℕ} 7 10 = b.tagged in absurd (omega (arith, wrong))
  no_phrases none (Near operands span ordered) next b = let wrong : ◌≡◌ {A = ℕ} 8 10 = b.tagged in absurd (omega (arith, wrong))
  no_phrases none (Within place) next b = let wrong : ◌≡◌ {A = ℕ} 9 10 = b.tagged in absurd (omega (arith, wrong))
  no_phrases none (Define phrases sum) next b = none_first is_written_term term_spelling bytes at phrases (listed step_spelling sum) next none (and_parts (is_written_term phrases) (are_listed is_written_step sum) b.rules).0 b.spelt

  pub no_sum : (read : List (List Slot)) (mid : ℕ) → Stands is_written_term term_spelling bytes at read mid → NoneStands (are_listed is_written_step) (listed step_spelling) bytes mid → (x : Head) (next : ℕ) → BodyStands is_written_head head_tag head_body 10 bytes at x next → ⊥
  no_sum read mid first none (Term phrases) next b = let wrong : ◌≡◌ {A = ℕ} 1 10 = b.tagged in absurd (omega (arith, wrong))
  no_sum read mid first none (Both And) next b = let wrong : ◌≡◌ {A = ℕ} 2 10 = b.tagged in absurd (omega (arith, wrong))
  no_sum read mid first none (Both Or) next b = let wrong : ◌≡◌ {A = ℕ} 3 10 = b.tagged in absurd (omega (arith, wrong))
  no_sum read mid first none (Both Not) next b = let wrong : ◌≡◌ {A = ℕ} 4 10 = b.tagged in absurd (omega (arith, wrong))
  no_sum read mid first none (Both Minus) next b = let wrong : ◌≡◌ {A = ℕ} 5 10 = b.tagged in absurd (omega (arith, wrong))
  no_sum read mid first none (Weight tenths) next b = let wrong : ◌≡◌ {A = ℕ} 6 10 = b.tagged in absurd (omega (arith, wrong))
  no_sum read mid first none (Above n) next b = let wrong : ◌≡◌ {A = ℕ} 7 10 = b.tagged in absurd (omega (arith, wrong))
  no_sum read mid first none (Near operands span ordered) next b = let wrong : ◌≡◌ {A = ℕ} 8 10 = b.tagged in absurd (omega (arith, wrong))
  no_sum read mid first none (Within place) next b = let wrong : ◌≡◌ {A = ℕ} 9 10 = b.tagged in absurd (omega (arith, wrong))
  no_sum read mid first none (Define phrases sum) next b =
      let parts = parts_at is_written_term term_spelling terms_apart bytes at read mid phrases (listed step_spelling sum) next first b.spelt in
      none sum next (record { rules = (and_parts (is_written_term phrases) (are_listed is_written_step sum) b.rules).1; spelt = parts.second })

  pub no_head : (t : ℕ) → (t ≡ 1 → ⊥) → (t ≡ 2 → ⊥) → (t ≡ 3 → ⊥) → (t ≡ 4 → ⊥) → (t ≡ 5 → ⊥) → (t ≡ 6 → ⊥) → (t ≡ 7 → ⊥) → (t ≡ 8 → ⊥) → (t ≡ 9 → ⊥) → (t ≡ 10 → ⊥) → (x : Head) (next : ℕ) → BodyStands is_written_head head_tag head_body t bytes at x next → ⊥
  no_head t h1 h2 h3 h4 h5 h6 h7 h8 h9 h10 (Term phrases) next b = h1 (sym b.tagged)
  no_head t h1 h2 h3 h4 h5 h6 h7 h8 h9 h10 (Both And) next b = h2 (sym b.tagged)
  no_head t h1 h2 h3 h4 h5 h6 h7 h8 h9 h10 (Both Or) next b = h3 (sym b.tagged)
  no_head t h1 h2 h3 h4 h5 h6 h7 h8 h9 h10 (Both Not) next b = h4 (sym b.tagged)
  no_head t h1 h2 h3 h4 h5 h6 h7 h8 h9 h10 (Both Minus) next b = h5 (sym b.tagged)
  no_head t h1 h2 h3 h4 h5 h6 h7 h8 h9 h10 (Weight tenths) next b = h6 (sym b.tagged)
  no_head t h1 h2 h3 h4 h5 h6 h7 h8 h9 h10 (Above n) next b = h7 (sym b.tagged)
  no_head t h1 h2 h3 h4 h5 h6 h7 h8 h9 h10 (Near operands span ordered) next b = h8 (sym b.tagged)
  no_head t h1 h2 h3 h4 h5 h6 h7 h8 h9 h10 (Within place) next b = h9 (sym b.tagged)
  no_head t h1 h2 h3 h4 h5 h6 h7 h8 h9 h10 (Define phrases sum) next b = h10 (sym b.tagged)

-- ---- what stands

module _ (bytes : List ℕ) (at : ℕ) where
  pub chars_stand : (text : List ℕ) (next : ℕ) → Stands is_text text_bytes bytes at text next → BodyStands is_written_bit bit_tag bit_body 1 bytes at (Chars text) next
  chars_stand text next s = record { rules = s.rules; tagged = refl; spelt = s.spelt }

  pub alone_stands : {X : Type 0} (rule : X → Bool) (tag : X → ℕ) (body : X → List ℕ) (t : ℕ) (x : X) → rule x ≡ true → tag x ≡ t → body x ≡ [] → at ≤ length bytes → BodyStands rule tag body t bytes at x at
  alone_stands rule tag body t x rules tagged none within = record { rules = rules; tagged = tagged; spelt = subst (λ (s : List ℕ). IsSpeltAt bytes at s at) (sym none) (nothing_at bytes at within) }

  pub takes_stand : (keys : List (List ℕ)) (mid : ℕ) (patterns : List (List PatternBit)) (next : ℕ) → Stands (are_listed is_short) (listed text_bytes) bytes at keys mid → Stands (are_listed is_written_pattern) (listed pattern_spelling) bytes mid patterns next → BodyStands is_written_slot slot_tag slot_body 1 bytes at (Takes keys patterns) next
  takes_stand keys mid patterns next a b = record {
    rules = and_from (are_listed is_short keys) (are_listed is_written_pattern patterns) a.rules b.rules;
    tagged = refl;
    spelt = joined_at bytes at (listed text_bytes keys) mid (listed pattern_spelling patterns) next a.spelt b.spelt;
  }

  pub zone_stands : (name : List ℕ) (next : ℕ) → Stands is_kept text_bytes bytes at name next → BodyStands is_written_place place_tag place_body 1 bytes at (Zone name) next
  zone_stands name next s = record { rules = s.rules; tagged = refl; spelt = s.spelt }

  pub field_stands : (stream next : ℕ) → Stands always byte_spelling bytes at stream next → BodyStands is_written_place place_tag place_body 2 bytes at (Field stream) next
  field_stands stream next s = record { rules = refl; tagged = refl; spelt = s.spelt }

  number_parts : (high low : ℕ) → low < 256 → ((high * 256 + low) / 256 ≡ high) × ((high * 256 + low) % 256 ≡ low)
  number_parts high low less = (omega (arith, less), omega (arith, less))

  pub number_stands : (high mid low next : ℕ) → low < 256 → Stands always byte_spelling bytes at high mid → Stands always byte_spelling bytes mid low next → BodyStands is_written_step step_tag step_body 1 bytes at (Number (high * 256 + low)) next
  number_stands high mid low next less a b =
      let parts = number_parts high low less in
      record {
        rules = refl;
        tagged = refl;
        spelt = subst (λ (s : List ℕ). IsSpeltAt bytes at s next) (λ i. sym parts.0 i ∷ sym parts.1 i ∷ []) (joined_at bytes at (high ∷ []) mid (low ∷ []) next a.spelt b.spelt);
      }

  pub term_stands : (phrases : List (List Slot)) (next : ℕ) → Stands is_written_term term_spelling bytes at phrases next → BodyStands is_written_head head_tag head_body 1 bytes at (Term phrases) next
  term_stands phrases next s = record { rules = s.rules; tagged = refl; spelt = s.spelt }

  pub weight_stands : (tenths next : ℕ) → Stands always byte_spelling bytes at tenths next → BodyStands is_written_head head_tag head_body 6 bytes at (Weight tenths) next
  weight_stands tenths next s = record { rules = refl; tagged = refl; spelt = s.spelt }

  pub threshold_stands : (n next : ℕ) → Stands always byte_spelling bytes at n next → BodyStands is_written_head head_tag head_body 7 bytes at (Above n) next
  threshold_stands n next s = record { rules = refl; tagged = refl; spelt = s.spelt }

  pub near_stands : (span mid : ℕ) (ordered : Bool) (start : ℕ) (operands : List (List (List Slot))) (next : ℕ) → Stands always byte_spelling bytes at span mid → Stands always order_spelling bytes mid ordered start → Stands (are_listed is_written_term) (listed term_spelling) bytes start operands next → BodyStands is_written_head head_tag head_body 8 bytes at (Near operands span ordered) next
  near_stands span mid ordered start operands next a b c = record {
    rules = c.rules;
    tagged = refl;
    spelt = joined_at bytes at (span ∷ []) mid (order_byte ordered ∷ listed term_spelling operands) next a.spelt (joined_at bytes mid (order_byte ordered ∷ []) start (listed term_spelling operands) next b.spelt c.spelt);
  }

  pub within_stands : (place : Place) (next : ℕ) → Stands is_written_place place_spelling bytes at place next → BodyStands is_written_head head_tag head_body 9 bytes at (Within place) next
  within_stands place next s = record { rules = s.rules; tagged = refl; spelt = s.spelt }

  pub define_stands : (phrases : List (List Slot)) (mid : ℕ) (sum : List SumStep) (next : ℕ) → Stands is_written_term term_spelling bytes at phrases mid → Stands (are_listed is_written_step) (listed step_spelling) bytes mid sum next → BodyStands is_written_head head_tag head_body 10 bytes at (Define phrases sum) next
  define_stands phrases mid sum next a b = record {
    rules = and_from (is_written_term phrases) (are_listed is_written_step sum) a.rules b.rules;
    tagged = refl;
    spelt = joined_at bytes at (term_spelling phrases) mid (listed step_spelling sum) next a.spelt b.spelt;
  }

-- none with a tag, where it is known which that is
pub at_tag : {X : Type 0} (rule : X → Bool) (tag : X → ℕ) (body : X → List ℕ) (t n : ℕ) → t ≡ n → (bytes : List ℕ) (at : ℕ) → ((x : X) (next : ℕ) → BodyStands rule tag body n bytes at x next → ⊥) → (x : X) (next : ℕ) → BodyStands rule tag body t bytes at x next → ⊥
at_tag rule tag body t n is bytes at none x next b = none x next (record { rules = b.rules; tagged = b.tagged ∙ is; spelt = b.spelt })
