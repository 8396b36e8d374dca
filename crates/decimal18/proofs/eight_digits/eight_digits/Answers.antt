use Rattle.std.proofs.Common.{rules, ◌≤◌, arith}
use Rattle.decimal18.proofs.EightDigits.{word_read}
use Rattle.decimal18.proofs.EightDigitsTest.{no_digits, few_digits, digits_found, digits_in}
use Rattle.decimal18.proofs.eight_digits.eight_digits.Goals as goal

pub returns-then-digits-ne0-clause-value : goal.returns-then-digits-ne0-clause-value
returns-then-digits-ne0-clause-value c =
    let w = word_read c.read_u64-word.result c.args.bytes.now c.read_u64-word.ensures c.requires
    (λ i. omega (arith, c.type_inv.bytes i)) in
    no_digits c.read_u64-word.result c.args.bytes.now w c.if-digits-ne0.true

pub overflow_mul-pairs : goal.overflow_mul-pairs
overflow_mul-pairs c =
    let w = word_read c.read_u64-word.result c.args.bytes.now c.read_u64-word.ensures c.requires
    (λ i. omega (arith, c.type_inv.bytes i)) in
    let few : digits_in c.read_u64-word.result ≤ 651061555542690057 =
    few_digits c.read_u64-word.result c.args.bytes.now w c.if-digits-ne0.false in
    search rules

pub overflow_add-pairs : goal.overflow_add-pairs
overflow_add-pairs c =
    let w = word_read c.read_u64-word.result c.args.bytes.now c.read_u64-word.ensures c.requires
    (λ i. omega (arith, c.type_inv.bytes i)) in
    let few : digits_in c.read_u64-word.result ≤ 651061555542690057 =
    few_digits c.read_u64-word.result c.args.bytes.now w c.if-digits-ne0.false in
    search rules

pub returns-clause-value : goal.returns-clause-value
returns-clause-value c =
    let w = word_read c.read_u64-word.result c.args.bytes.now c.read_u64-word.ensures c.requires
    (λ i. omega (arith, c.type_inv.bytes i)) in
    (digits_found c.read_u64-word.result c.args.bytes.now w c.if-digits-ne0.false).0

pub returns-clause-bound : goal.returns-clause-bound
returns-clause-bound c =
    let w = word_read c.read_u64-word.result c.args.bytes.now c.read_u64-word.ensures c.requires
    (λ i. omega (arith, c.type_inv.bytes i)) in
    (digits_found c.read_u64-word.result c.args.bytes.now w c.if-digits-ne0.false).1
