-- What is noted of pasted lines.
use Rattle.std.specs.Prelude.{◌-◌, ◌+◌, ◌^◌, ◌==◌, ◌&&◌, ◌||◌, not, min, Bool, true, false, List, ℕ, [], codes, drop, if◌then◌else◌}
use Rattle.std.specs.List.{list_any}
use Rattle.std.specs.Str.{bytes_eq}
use Rattle.text.specs.Script.{joins}
use Rattle.pasted.specs.Plain.{body, command, first_word, behind_word, has_mark, has_more_prompt, has_prompt, has_sudo, is_joined, is_of_command, is_quoted, past_more_prompt, past_prompt, roles, unended_length, unmarked, words_apart}
use Rattle.pasted.specs.declared.place.Place.{Place}
use Rattle.pasted.specs.declared.place.Place.TheVariants.{First, Begin, Command, Other}
use Rattle.pasted.specs.declared.roles.Role.{Role}
use Rattle.pasted.specs.declared.roles.Role.TheVariants.{Stays, Fp, Delay, Assist, Value}
use Rattle.pasted.specs.declared.note.Marks.{Marks}
use Rattle.pasted.specs.declared.note.Note.{Note}
use Rattle.pasted.specs.declared.note.Passed.{Passed}

-- one line more, if something was passed over there
abbrev pub counted : Passed → ℕ → Bool → Passed
counted passed number there = if there then record { lines = min (2 ^ 64 - 1) (passed.lines + 1); first = if passed.lines == 0 then number else passed.first } else passed

-- each kind by itself
abbrev pub noted : Note → ℕ → Marks → Note
noted note number marks = record {
  byte_order = counted note.byte_order number marks.byte_order;
  prompt = counted note.prompt number marks.prompt;
  sudo = counted note.sudo number marks.sudo;
  path = counted note.path number marks.path;
  blanks = counted note.blanks number marks.blanks;
  quotes = counted note.quotes number marks.quotes;
  semicolon = counted note.semicolon number marks.semicolon;
  fp = counted note.fp number marks.fp;
  txtime_delay = counted note.txtime_delay number marks.txtime_delay;
  txtime_assist = counted note.txtime_assist number marks.txtime_assist;
}

-- blanks stand behind the backslash that joins the next line, and no CR alone
abbrev pub has_blanks : List ℕ → Bool
has_blanks line = is_joined line && not (joins line)

-- a semicolon stands behind the last word of the line that ends a command
abbrev pub has_semicolon : List ℕ → Bool
has_semicolon line = not (is_joined line) && list_any (λ b. b == 59) (drop (unended_length line) line)

-- some word has quotation marks
abbrev pub has_quoted : List (List ℕ × List ℕ) → Bool
has_quoted words = list_any (λ x. is_quoted x.1) words

abbrev pub is_fp : Role → Bool
is_fp Stays = false
is_fp Fp = true
is_fp Delay = false
is_fp Assist = false
is_fp Value = false

abbrev pub is_delay : Role → Bool
is_delay Stays = false
is_delay Fp = false
is_delay Delay = true
is_delay Assist = false
is_delay Value = false

abbrev pub is_txtime : Role → Bool
is_txtime Stays = false
is_txtime Fp = false
is_txtime Delay = false
is_txtime Assist = true
is_txtime Value = false

-- with those of one more word
abbrev pub with_word : Marks → Bool → Role → Marks
with_word marks quoted role = record marks {
  quotes = marks.quotes || quoted;
  fp = marks.fp || is_fp role;
  txtime_delay = marks.txtime_delay || is_delay role;
  txtime_assist = marks.txtime_assist || is_txtime role;
}

-- of a line without anything around its words
abbrev pub marks_of_words : List (List ℕ × List ℕ) → Marks
marks_of_words words = record {
  byte_order = false;
  prompt = false;
  sudo = false;
  path = false;
  blanks = false;
  quotes = has_quoted words;
  semicolon = false;
  fp = list_any is_fp (roles Stays words);
  txtime_delay = list_any is_delay (roles Stays words);
  txtime_assist = list_any is_txtime (roles Stays words);
}

-- of a line that begins a command
abbrev pub marks_of_command : Bool → List ℕ → Marks
marks_of_command marked line = record (marks_of_words (words_apart [] [] (behind_word (command (body line))))) {
  byte_order = marked;
  prompt = has_prompt (body line);
  sudo = has_sudo (past_prompt (body line));
  path = not (bytes_eq (first_word (command (body line))) (codes "tc"));
  blanks = has_blanks line;
  semicolon = has_semicolon line;
}

-- of one that is joined to a command
abbrev pub marks_of_more : List ℕ → Marks
marks_of_more line = record (marks_of_words (words_apart [] [] (past_more_prompt (body line)))) {
  prompt = has_more_prompt (body line);
  blanks = has_blanks line;
  semicolon = has_semicolon line;
}

abbrev pub marks_of_other : Bool → Marks
marks_of_other marked = record (marks_of_words []) { byte_order = marked }

abbrev pub marks_of_part : Place → Bool → List ℕ → Marks
marks_of_part First marked line = marks_of_command marked line
marks_of_part Begin marked line = marks_of_command marked line
marks_of_part Command marked line = marks_of_more line
marks_of_part Other marked line = marks_of_other marked

-- what is passed over in a line at a place, whose byte order mark is off
abbrev pub text_marks : Place → Bool → List ℕ → Marks
text_marks place marked text = if is_of_command place text then marks_of_part place marked text else marks_of_other marked

-- what is passed over in a line at a place
abbrev pub marks : Place → List ℕ → Marks
marks place line = text_marks place (has_mark place line) (unmarked place line)
