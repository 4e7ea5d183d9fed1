use Rattle.std.proofs.Common.{ap, ◌∙◌, ◌≡◌, ℕ, Bool, take}
use Rattle.std.specs.List.{prefix_len, list_all}
use Rattle.std.specs.Char.{is_digit}
use Rattle.xml_chars.proofs.Readers.{run_takes}
use Rattle.xml_chars.proofs.NumberLemmas.{digit_low, ascii_chars}
use Rattle.xml_chars.proofs.TextLemmas.{split_run, run_of_split}
use Rattle.xml_chars.proofs.references.digits_of.Goals as goal

pub split_at-requires : goal.split_at-requires
split_at-requires c =
    let p : ℕ → Bool = λ x. is_digit x c.args.base in
    (split_run p (digit_low c.args.base c.requires.high) c.args.text.now c.digits_len.result c.utf8.text (c.digits_len.ensures.value ∙ ap (prefix_len p) c.as_bytes.ensures.value)).boundary

pub returns-clause-read : goal.returns-clause-read
returns-clause-read c =
    let p : ℕ → Bool = λ x. is_digit x c.args.base in
    run_of_split p c.args.text.now _ _ c.digits_len.result
    (split_run p (digit_low c.args.base c.requires.high) c.args.text.now c.digits_len.result c.utf8.text (c.digits_len.ensures.value ∙ ap (prefix_len p) c.as_bytes.ensures.value))
    c.split_at.ensures.front c.split_at.ensures.back

pub returns-clause-digits : goal.returns-clause-digits
returns-clause-digits c =
    let p : ℕ → Bool = λ x. is_digit x c.args.base in
    let n : c.digits_len.result ≡ prefix_len p c.args.text.now = c.digits_len.ensures.value ∙ ap (prefix_len p) c.as_bytes.ensures.value in
    let prefix : c.split_at.result.0.now ≡ take (prefix_len p c.args.text.now) c.args.text.now = c.split_at.ensures.front ∙ ap (λ (k : ℕ). take k c.args.text.now) n in
    ap (list_all p) prefix ∙ (run_takes p c.args.text.now).0

pub returns-clause-ascii : goal.returns-clause-ascii
returns-clause-ascii c =
    let p : ℕ → Bool = λ x. is_digit x c.args.base in
    let n : c.digits_len.result ≡ prefix_len p c.args.text.now = c.digits_len.ensures.value ∙ ap (prefix_len p) c.as_bytes.ensures.value in
    let prefix : c.split_at.result.0.now ≡ take (prefix_len p c.args.text.now) c.args.text.now = c.split_at.ensures.front ∙ ap (λ (k : ℕ). take k c.args.text.now) n in
    ascii_chars p (digit_low c.args.base c.requires.high) c.split_at.result.0.now (ap (list_all p) prefix ∙ (run_takes p c.args.text.now).0)
