use Rattle.std.proofs.Common.{ℕ, List, [], ◌++◌, map, rules, sym, ap, ◌∙◌, append_assoc}
use Rattle.std.specs.Char.{to_ascii_lowercase}
use Rattle.std.specs.Str.{chars}
use Rattle.std.specs.String.{string_bytes}
use Rattle.std.proofs.lemmas.Str.{chars-nil}
use Rattle.tx_prefs.specs.RequestWords.{read_word, word_unless_empty, words_behind}
use Rattle.tx_prefs.proofs.WordSteps.{words_begin, word_ends}
use Rattle.tx_prefs.proofs.words.words_of.Goals as goal

pub loop-c-init : goal.loop-c-init
loop-c-init c = record {
  is_text = search rules;
  so_far =
      ap (λ (l : List (List ℕ)). map read_word l ++ words_behind (read_word (string_bytes c.new-word.result)) (chars c.args.text.now)) c.new-words.ensures.items
      ∙ ap (λ (l : List ℕ). words_behind (read_word l) (chars c.args.text.now)) c.new-word.ensures.bytes
      ∙ ap (λ (l : List ℕ). words_behind (map to_ascii_lowercase l) (chars c.args.text.now)) chars-nil
      ∙ words_begin (chars c.args.text.now);
}

pub loop-c-preserved-in_ok-put_word : goal.loop-c-preserved-in_ok-put_word
loop-c-preserved-in_ok-put_word c =
    let word = read_word (string_bytes c.loop-c.word) in
    let rest = chars c.in-Some.after.now in
    record {
      is_text = search rules;
      so_far =
          ap (λ (l : List (List ℕ)). l ++ words_behind (read_word (string_bytes c.new-word-then-is_whitespace.result)) rest) c.in_ok-put_word.ensures
          ∙ ap (λ (l : List ℕ). (map read_word c.loop-c.words.items ++ word_unless_empty word) ++ words_behind (read_word l) rest) c.new-word-then-is_whitespace.ensures.bytes
          ∙ ap (λ (l : List ℕ). (map read_word c.loop-c.words.items ++ word_unless_empty word) ++ words_behind (map to_ascii_lowercase l) rest) chars-nil
          ∙ append_assoc (map read_word c.loop-c.words.items) (word_unless_empty word) (words_behind [] rest)
          ∙ ap (λ (l : List (List ℕ)). map read_word c.loop-c.words.items ++ l) (sym (word_ends word c.in-Some.c rest (search rules)))
          ∙ ap (λ (l : List ℕ). map read_word c.loop-c.words.items ++ words_behind word l) (sym c.in-Some.ensures.chars)
          ∙ c.loop-c.invariant.so_far;
    }
