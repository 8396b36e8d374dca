-- What INSPECT takes and puts, part after part, while its code is made.
use Rattle.std.proofs.Common.{◌≡◌, ℕ, ◌+◌, ◌-◌, ◌<◌, ◌≤◌, true, false, if◌then◌else◌, List, [], ◌∷◌, ◌++◌, length, map}
use Rattle.std.proofs.Common.{take, get_or, Option, Some, None, refl, sym, ap, subst, ◌∙◌, arith, append_assoc}
use Rattle.std.proofs.Common.{length-append}
use Rattle.std.specs.Prelude.{Bool, Result, Ok, Err, OnOk, IfOk, slice_get}
use Rattle.std.proofs.lemmas.List.{take_more, take_all, append-nil}
use Rattle.text_ops.specs.declared.entry.Span.{Span}
use Rattle.text_ops.specs.declared.entry.Fit.{Fit}
use Rattle.text_ops.specs.declared.entry.Fit.TheVariants as fit
use Rattle.text_ops.specs.declared.entry.Entry.{Entry}
use Rattle.source_tree.specs.declared.reference.Reference.{Reference}
use Rattle.source_tree.specs.declared.expression.Operand.{Operand}
use Rattle.source_tree.specs.declared.inspect_statement.Limits.{Limits}
use Rattle.source_tree.specs.declared.inspect_statement.Occurrences.{Occurrences}
use Rattle.source_tree.specs.declared.inspect_statement.Occurrences.TheVariants as how
use Rattle.source_tree.specs.declared.inspect_statement.TalliedText.{TalliedText}
use Rattle.source_tree.specs.declared.inspect_statement.Tallied.TheVariants as tallied
use Rattle.source_tree.specs.declared.inspect_statement.Tallying.{Tallying}
use Rattle.source_tree.specs.declared.inspect_statement.ReplacedText.{ReplacedText}
use Rattle.source_tree.specs.declared.inspect_statement.Replacing.{Replacing}
use Rattle.source_tree.specs.declared.inspect_statement.Replacing.TheVariants as replacing
use Rattle.source_tree.specs.declared.inspect_statement.Converting.{Converting}
use Rattle.source_tree.specs.declared.inspect_statement.InspectStatement.{InspectStatement}
use Rattle.source_tree.specs.Converting.{as_replacing}
use Rattle.source_tree.specs.InspectRules.{inspected_item}
use Rattle.source_tree.specs.NameRules.{reference_rules}
use Rattle.source_tree.specs.Places.{LocatedItem}
use Rattle.source_tree.specs.InspectLayout.{Source, Bytes, Characters, InspectArgument, Counter, Text, InspectEntry}
use Rattle.source_tree.specs.InspectLayout.{source, text_size, text_sizes, replacing_text, tallied_text, replaced_text}
use Rattle.source_tree.specs.InspectLayout.{tallied_entries, replacing_entries, measured_texts}
use Rattle.source_tree.specs.InspectLayout.{fit_of, span_at, what_texts, by_texts, limit_text, limit_texts, entry_texts}
use Rattle.source_tree.specs.InspectLayout.{entries_texts, limit_span, before_at, after_at, what_fit, by_span, by_at}
use Rattle.source_tree.specs.InspectLayout.{limits_at, entry_at, entries_at, counter_entries, tallying_takings}
use Rattle.source_tree.specs.InspectLayout.{all_inspected, entry_counts, all_replaced, tallied_size, takings}
use Rattle.data_instructions.specs.declared.gather.Gather.{Gather}
use Rattle.data_instructions.specs.declared.tables.Inspection.{Inspection}
use Rattle.data_instructions.specs.declared.instruction.DataInstruction.TheVariants as i
use Rattle.data_instructions.specs.InspectCodes.{taken_numbers}
use Rattle.code_image.specs.declared.code.Code.{Code}
use Rattle.statement_codegen.specs.declared.inspect_statement.TextLine.{TextLine}
use Rattle.statement_codegen.specs.declared.inspect_statement.Entries.{Entries}
use Rattle.condition_codegen.specs.Fragments.{append, sequence}
use Rattle.condition_codegen.specs.DataCode.{item_number, text_fragment, reference_fragment, take_fragment}
use Rattle.statement_codegen.specs.InspectCode.{inspection_fragment, taken_fragment, takings_fragment, inspection_entry}
use Rattle.statement_codegen.specs.InspectCode.{inspect_fragment, Takes, TakesTexts, TextMade, LimitMade, LimitsMade}
use Rattle.statement_codegen.specs.InspectCode.{Puts, Counts, conversion_fragment, convert_fragment, longer_line}
use Rattle.statement_codegen.specs.InspectCode.{line_after, gather}
use Rattle.condition_codegen.specs.ItemParts.{length_shown, is_measured}
use Rattle.condition_codegen.proofs.Lists.{map_both}
use Rattle.statement_codegen.proofs.InspectKept.{named_length, taken_once, measured_once}
use Rattle.condition_codegen.proofs.Fragments.{joined_assoc, joined_nothing, in_order-append}
use Rattle.statement_codegen.proofs.InspectLists.{all_inspected_append, texts_append, takings_append, counts_append}
use Rattle.statement_codegen.proofs.InspectLists.{sizes_append, inspected_whole, so_many, entries_append}
use Rattle.statement_codegen.proofs.InspectLists.{measured_sources, measured_whole}
use Rattle.condition_codegen.proofs.Sequences.{then_piece, on_ok}

made_entry : (f g : Fit) (a b c d x y : Option Span) → f ≡ g → a ≡ b → c ≡ d → x ≡ y
    → (let one : Entry = record { fit = f; before = a; after = c; by = x } in let other : Entry =
    record { fit = g; before = b; after = d; by = y } in one ≡ other)
made_entry f g a b c d x y p q r s = cc

made_inspection : (s t : ℕ) (a b : List ℕ) (c d e f : List Entry) → s ≡ t → a ≡ b → c ≡ d → e ≡ f
    → (let one : Inspection = record { size = s; counters = a; tallying = c; replacing = e } in let other : Inspection =
    record { size = t; counters = b; tallying = d; replacing = f } in one ≡ other)
made_inspection s t a b c d e f p q r u = cc

-- the line before any text
abbrev nothing : TextLine
nothing = record { size = 0; measured = 0 }

module _ (items : List LocatedItem) where
  -- ---- code

  pub takes_none : (code : Code) → Takes items [] code code
  takes_none code = sym (joined_nothing code)

  pub takes_one : (one : InspectArgument) (before after : Code)
      → after ≡ append before (taken_fragment items one before) → Takes items (one ∷ []) before after
  takes_one one before after e = e ∙ ap (append before) (sym (joined_nothing (taken_fragment items one before)))

  takes_both : (xs ys : List InspectArgument) (a b c : Code) → Takes items xs a b → Takes items ys b c
      → Takes items (xs ++ ys) a c
  takes_both xs ys a b c e f =
      let piece = takings_fragment items in
      f ∙ ap (λ (z : Code). append z (piece ys z)) e ∙ joined_assoc a (piece xs a) (piece ys (append a (piece xs a)))
      ∙ sym (ap (append a) (in_order-append (taken_fragment items) xs ys a))

  takes_same : (xs ys : List InspectArgument) (a b : Code) → xs ≡ ys → Takes items xs a b → Takes items ys a b
  takes_same xs ys a b same e = e ∙ ap (λ l. append a (takings_fragment items l a)) same

  texts_both : (xs ys : List Source) (a b c : Code) → TakesTexts items xs a b → TakesTexts items ys b c
      → TakesTexts items (xs ++ ys) a c
  texts_both xs ys a b c e f = takes_same (map Text xs ++ map Text ys) (map Text (xs ++ ys)) a c
      (sym (map_both Text xs ys)) (takes_both (map Text xs) (map Text ys) a b c e f)

  texts_same : (xs ys : List Source) (a b : Code) → xs ≡ ys → TakesTexts items xs a b → TakesTexts items ys a b
  texts_same xs ys a b same = takes_same (map Text xs) (map Text ys) a b (ap (map Text) same)

  -- ---- lines

  same_line : (a b c d : ℕ) → a ≡ c → b ≡ d → (let one : TextLine = record { size = a; measured = b } in
      let other : TextLine = record { size = c; measured = d } in one ≡ other)
  same_line a b c d e f = cc

  line_none : (n : TextLine) → n ≡ line_after items [] n
  line_none n = same_line n.size n.measured (n.size + 0) (n.measured + 0) (omega arith) (omega arith)

  line_both : (xs ys : List Source) (n m k : TextLine) → m ≡ line_after items xs n → k ≡ line_after items ys m
      → k ≡ line_after items (xs ++ ys) n
  line_both xs ys n m k e f =
      let sizes = sizes_append items xs ys in
      let texts = measured_sources items xs ys in
      f ∙ ap (line_after items ys) e ∙ same_line _ _ _ _ (omega (arith, sizes)) (omega (arith, texts))

  line_same : (xs ys : List Source) (n k : TextLine) → xs ≡ ys → k ≡ line_after items xs n
      → k ≡ line_after items ys n
  line_same xs ys n k same e = e ∙ ap (λ l. line_after items l n) same

  -- ---- texts

  bytes_made : (one : Reference) (old new : Code) (n k : TextLine) (size : ℕ) (measured : Bool)
      → reference_rules items inspected_item one ≡ []
      → new ≡ append old (take_fragment items (i.Gather (gather measured)) one old)
      → measured ≡ is_measured one (slice_get items (item_number items one.item))
      → size ≡ length_shown one (slice_get items (item_number items one.item))
      → k ≡ longer_line size measured n
      → TextMade items (Bytes one) old new n k (record { start = n.size; length = size })
  bytes_made one old new n k size measured keep e is sized longer =
      let long = sized ∙ named_length items one keep in
      let texts = measured_once items one measured keep is in
      record {
        code = takes_one (Text (Bytes one)) old new (e ∙ ap (append old) (taken_once items one measured old keep is));
        line_is = longer ∙ same_line _ _ _ _ (omega (arith, long)) (omega (arith, texts));
        span_is = ap (λ l. record { start = n.size; length = l }) long;
      }

  -- the same where a call may have failed
  module _ {E : Type 0} (result : Result Span E) where
    pub bytes_taken : (one : Reference) (old new : Code) (n k : TextLine) (size : ℕ) (measured : Bool) (adding : Gather)
        → reference_rules items inspected_item one ≡ []
        → new ≡ append old (take_fragment items (i.Gather adding) one old) → adding ≡ gather measured
        → measured ≡ is_measured one (slice_get items (item_number items one.item))
        → size ≡ length_shown one (slice_get items (item_number items one.item))
        → OnOk result (k ≡ longer_line size measured n)
        → IfOk result (λ span. span ≡ record { start = n.size; length = size })
        → IfOk result (λ span. TextMade items (Bytes one) old new n k span)
    bytes_taken one old new n k size measured adding keep e adds is sized line span = by_result result line span
      where
        taken : new ≡ append old (take_fragment items (i.Gather (gather measured)) one old)
        taken = e ∙ ap (λ (g : Gather). append old (take_fragment items (i.Gather g) one old)) adds

        by_result : (r : Result Span E) → OnOk r (k ≡ longer_line size measured n)
            → IfOk r (λ span. span ≡ record { start = n.size; length = size })
            → IfOk r (λ span. TextMade items (Bytes one) old new n k span)
        by_result (Ok x) l s = subst (λ span. TextMade items (Bytes one) old new n k span) (sym s)
            (bytes_made one old new n k size measured keep taken is sized l)
        by_result (Err x) l s = l

    pub characters_made : (text bytes : List ℕ) (old new : Code) (n k : TextLine) → bytes ≡ text
        → OnOk result (new ≡ append old (text_fragment bytes old))
        → OnOk result (k ≡ longer_line (length bytes) false n)
        → IfOk result (λ span. span ≡ record { start = n.size; length = length bytes })
        → IfOk result (λ span. TextMade items (Characters text) old new n k span)
    characters_made text bytes old new n k same code line span = by_result result code line span
      where
        by_result : (r : Result Span E) → OnOk r (new ≡ append old (text_fragment bytes old))
            → OnOk r (k ≡ longer_line (length bytes) false n)
            → IfOk r (λ span. span ≡ record { start = n.size; length = length bytes })
            → IfOk r (λ span. TextMade items (Characters text) old new n k span)
        by_result (Ok x) e g f = record {
          code = takes_one (Text (Characters text)) old new (e ∙ ap (λ l. append old (text_fragment l old)) same);
          line_is = g ∙ ap (λ (l : List ℕ). longer_line (length l) false n) same
              ∙ same_line _ _ _ _ (omega arith) (omega arith);
          span_is = f ∙ ap (λ (l : List ℕ). record { start = n.size; length = length l }) same;
        }
        by_result (Err x) e g f = e

  -- ---- limits

  pub limit_none : (code : Code) (n : TextLine) → LimitMade items None code code n n None
  limit_none code n = record { code = takes_none code; line_is = line_none n; span_is = refl }

  pub limit_some : (one : Operand) (before after : Code) (n k : TextLine) (span : Span)
      → TextMade items (source one) before after n k span
      → LimitMade items (Some one) before after n k (Some span)
  limit_some one before after n k span made =
      record { code = made.code; line_is = made.line_is; span_is = ap Some made.span_is }

  pub limits_turned : (one : Limits) (a b c : Code) (n m k : TextLine) (x y : Option Span) → one.after_first ≡ true
      → LimitMade items one.after a b n m y → LimitMade items one.before b c m k x
      → LimitsMade items one a c n k x y
  limits_turned one a b c n m k x y turned after before =
      let texts = limit_text one.after ++ limit_text one.before in
      let other = limit_text one.before ++ limit_text one.after in
      let same = ap (λ t. if t then texts else other) (sym turned) in
      record {
        code = texts_same texts (limit_texts one) a c same
            (texts_both (limit_text one.after) (limit_text one.before) a b c after.code before.code);
        line_is = line_same texts (limit_texts one) n k same
            (line_both (limit_text one.after) (limit_text one.before) n m k after.line_is before.line_is);
        before_is = before.span_is ∙ ap (λ l. limit_span items l one.before)
            (ap (λ (l : TextLine). l.size) after.line_is
            ∙ ap (λ t. if t then n.size + text_sizes items (limit_text one.after) else n.size) (sym turned));
        after_is = after.span_is ∙ ap (λ l. limit_span items l one.after)
            (ap (λ t. if t then n.size else n.size + text_sizes items (limit_text one.before)) (sym turned));
      }

  pub limits_straight : (one : Limits) (a b c : Code) (n m k : TextLine) (x y : Option Span) → one.after_first ≡ false
      → LimitMade items one.before a b n m x → LimitMade items one.after b c m k y
      → LimitsMade items one a c n k x y
  limits_straight one a b c n m k x y straight before after =
      let texts = limit_text one.before ++ limit_text one.after in
      let other = limit_text one.after ++ limit_text one.before in
      let same = ap (λ t. if t then other else texts) (sym straight) in
      record {
        code = texts_same texts (limit_texts one) a c same
            (texts_both (limit_text one.before) (limit_text one.after) a b c before.code after.code);
        line_is = line_same texts (limit_texts one) n k same
            (line_both (limit_text one.before) (limit_text one.after) n m k before.line_is after.line_is);
        before_is = before.span_is ∙ ap (λ l. limit_span items l one.before)
            (ap (λ t. if t then n.size + text_sizes items (limit_text one.after) else n.size) (sym straight));
        after_is = after.span_is ∙ ap (λ l. limit_span items l one.after)
            (ap (λ (l : TextLine). l.size) before.line_is
            ∙ ap (λ t. if t then n.size else n.size + text_sizes items (limit_text one.before)) (sym straight));
      }

  -- ---- an entry

  pub entry_put :
      (one : InspectEntry) (a b c d : Code) (n m k : TextLine) (fit : Fit) (by x y : Option Span) (old new : List Entry)
      → TakesTexts items (what_texts one.what) a b → fit ≡ what_fit items n.size one.what
      → TakesTexts items (by_texts one.by) b c → by ≡ by_span items (by_at items n.size one) one.by
      → m ≡ line_after items (what_texts one.what ++ by_texts one.by) n → LimitsMade items one.limits c d m k x y
      → new ≡ old ++ (record { fit = fit; before = x; after = y; by = by }) ∷ []
      → Puts items (one ∷ []) a d (record { line = n; entries = old }) (record { line = k; entries = new })
  entry_put one a b c d n m k fit by x y old new what fit_is replacing by_is line made pushed =
      let texts = what_texts one.what in
      let others = by_texts one.by in
      let limits = limit_texts one.limits in
      let sum = sizes_append items texts others in
      let here : m.size ≡ limits_at items n.size one =
      ap (λ (l : TextLine). l.size) line ∙ omega (arith, sum) in
      let entry : Entry = record { fit = fit; before = x; after = y; by = by } in
      let same : entry ≡ entry_at items n.size one =
      made_entry _ _ _ _ _ _ _ _ fit_is
      (made.before_is ∙ ap (λ p. limit_span items (before_at items p one.limits) one.limits.before) here)
      (made.after_is ∙ ap (λ p. limit_span items (after_at items p one.limits) one.limits.after) here) by_is in
      record {
        code = texts_same (entry_texts one) (entries_texts (one ∷ [])) a d (sym (append-nil (entry_texts one)))
            (texts_both (texts ++ others) limits a c d (texts_both texts others a b c what replacing) made.code);
        line_is = line_same (entry_texts one) (entries_texts (one ∷ [])) n k (sym (append-nil (entry_texts one)))
            (line_both (texts ++ others) limits n m k line made.line_is);
        entries_are = pushed ∙ ap (λ e. old ++ e ∷ []) same;
      }

  -- a text that is counted
  pub tallied_put : (how : Occurrences) (one : TalliedText) (a b d : Code) (n m k : TextLine) (text : Span)
      (fit : Fit) (x y : Option Span) (old new : List Entry)
      → TextMade items (source one.text) a b n m text
      → LimitsMade items one.limits b d m k x y → fit ≡ fit_of how text
      → new ≡ old ++ (record { fit = fit; before = x; after = y; by = None }) ∷ []
      → Puts items (tallied_text how one ∷ []) a d (record { line = n; entries = old })
      (record { line = k; entries = new })
  tallied_put how one a b d n m k text fit x y old new found limits fit_is pushed =
      entry_put (tallied_text how one) a b b d n m k fit None x y old new found.code
      (fit_is ∙ ap (fit_of how) found.span_is) (takes_none b) refl found.line_is limits pushed

  -- any character that is counted
  pub any_put : (limits : Limits) (a d : Code) (n k : TextLine) (x y : Option Span) (old new : List Entry)
      → LimitsMade items limits a d n k x y
      → new ≡ old ++ (record { fit = fit.Characters; before = x; after = y; by = None }) ∷ []
      → Puts items (tallied_entries (tallied.Characters limits)) a d (record { line = n; entries = old })
      (record { line = k; entries = new })
  any_put limits a d n k x y old new made pushed =
      entry_put _ a a a d n n k fit.Characters None x y old new (takes_none a) refl (takes_none a) refl (line_none n)
      made pushed

  -- any character that is replaced
  pub any_replaced_put : (other : Operand) (limits : Limits) (a c d : Code) (n m k : TextLine) (by : Span)
      (x y : Option Span) (old new : List Entry)
      → TextMade items (replacing_text 1 other) a c n m by → LimitsMade items limits c d m k x y
      → new ≡ old ++ (record { fit = fit.Characters; before = x; after = y; by = Some by }) ∷ []
      → Puts items (replacing_entries items (replacing.Characters other limits)) a d
      (record { line = n; entries = old })
      (record { line = k; entries = new })
  any_replaced_put other limits a c d n m k by x y old new found made pushed =
      let here : n.size ≡ n.size + 0 = omega arith in
      entry_put _ a a c d n m k fit.Characters (Some by) x y old new (takes_none a) refl found.code
      (ap Some (found.span_is ∙ ap (λ p. span_at items p (replacing_text 1 other)) here)) found.line_is made pushed

  -- a text that is replaced, and what replaces it
  pub replaced_put : (how : Occurrences) (one : ReplacedText) (a b c d : Code) (n m l k : TextLine) (text by : Span)
      (fit : Fit) (x y : Option Span) (old new : List Entry)
      → TextMade items (source one.text) a b n m text → TextMade items (replacing_text text.length one.by) b c m l by
      → LimitsMade items one.limits c d l k x y → fit ≡ fit_of how text
      → new ≡ old ++ (record { fit = fit; before = x; after = y; by = Some by }) ∷ []
      → Puts items (replaced_text items how one ∷ []) a d (record { line = n; entries = old })
      (record { line = k; entries = new })
  replaced_put how one a b c d n m l k text by fit x y old new found others limits fit_is pushed =
      let inspected = replaced_text items how one in
      let size : text.length ≡ text_size items (source one.text) = ap (λ (s : Span). s.length) found.span_is in
      let other = replacing_text (text_size items (source one.text)) one.by in
      let replacing : TextMade items other b c m l by =
      subst (λ s. TextMade items (replacing_text s one.by) b c m l by) size others in
      let here : m.size ≡ by_at items n.size inspected = ap (λ (l : TextLine). l.size) found.line_is in
      entry_put inspected a b c d n l k fit (Some by) x y old new found.code (fit_is ∙ ap (fit_of how) found.span_is)
      replacing.code (ap Some (replacing.span_is ∙ ap (λ p. span_at items p other) here))
      (line_both (source one.text ∷ []) (other ∷ []) n m l found.line_is replacing.line_is) limits pushed

  -- ---- entries

  pub puts_none : (code : Code) (o : Entries) → Puts items [] code code o o
  puts_none code o = record {
    code = takes_none code;
    line_is = line_none o.line;
    entries_are = sym (append-nil o.entries);
  }

  pub puts_both : (xs ys : List InspectEntry) (a b c : Code) (o p q : Entries)
      → Puts items xs a b o p → Puts items ys b c p q → Puts items (xs ++ ys) a c o q
  puts_both xs ys a b c o p q first second =
      let n = o.line.size in
      let size = ap (λ (l : TextLine). l.size) first.line_is in
      record {
        code =
            texts_same (entries_texts xs ++ entries_texts ys) (entries_texts (xs ++ ys)) a c (sym (texts_append xs ys))
            (texts_both (entries_texts xs) (entries_texts ys) a b c first.code second.code);
        line_is = line_same (entries_texts xs ++ entries_texts ys) (entries_texts (xs ++ ys)) o.line q.line
            (sym (texts_append xs ys))
            (line_both (entries_texts xs) (entries_texts ys) o.line p.line q.line first.line_is second.line_is);
        entries_are = second.entries_are ∙ ap (λ l. l ++ entries_at items p.line.size ys) first.entries_are
            ∙ append_assoc o.entries (entries_at items n xs) (entries_at items p.line.size ys)
            ∙ ap (λ s. o.entries ++ (entries_at items n xs ++ entries_at items s ys)) size
            ∙ ap (λ l. o.entries ++ l) (sym (entries_append items n xs ys));
      }

  -- the first of a list, one more of them, and all
  module _ {A : Type 0} (f : A → List InspectEntry) (all : List A) (i : ℕ) where
    taken_more : (one : A) → i < length all → one ≡ get_or all i one
        → all_inspected f (take (i + 1) all) ≡ all_inspected f (take i all) ++ f one
    taken_more one within is =
        ap (all_inspected f) (take_more all i one within ∙ ap (λ x. take i all ++ x ∷ []) (sym is))
        ∙ all_inspected_append f (take i all) (one ∷ [])
        ∙ ap (λ l. all_inspected f (take i all) ++ l) (append-nil (f one))

    pub puts_more : (one : A) → i < length all → one ≡ get_or all i one
        → (a b c : Code) (o p q : Entries) → Puts items (all_inspected f (take i all)) a b o p
        → Puts items (f one) b c p q → Puts items (all_inspected f (take (i + 1) all)) a c o q
    puts_more one within is a b c o p q first second =
        subst (λ l. Puts items l a c o q) (sym (taken_more one within is))
        (puts_both (all_inspected f (take i all)) (f one) a b c o p q first second)

    pub puts_all : (a b : Code) (o p : Entries) → length all ≤ i
        → Puts items (all_inspected f (take i all)) a b o p → Puts items (all_inspected f all) a b o p
    puts_all a b o p le first = subst (λ l. Puts items (all_inspected f l) a b o p) (take_all i all le) first

  -- ---- counters

  -- a counter's place, and what it counts
  pub counter_put : (one : Tallying) (a b c : Code) (o p : Entries) (old new : List ℕ)
      → b ≡ append a (reference_fragment items one.counter a)
      → Puts items (counter_entries one) b c o p → new ≡ old ++ length (counter_entries one) ∷ []
      → Counts items (one ∷ []) a c o p old new
  counter_put one a b c o p old new place made counted =
      let texts = map Text (entries_texts (counter_entries one)) in
      let same = sym (append-nil (counter_entries one)) in
      record {
        code = takes_same (Counter one.counter ∷ texts) (tallying_takings (one ∷ [])) a c
            (ap (λ l. Counter one.counter ∷ l) (sym (append-nil texts)))
            (takes_both (Counter one.counter ∷ []) texts a b c (takes_one (Counter one.counter) a b place) made.code);
        line_is = made.line_is ∙ ap (λ l. line_after items (entries_texts l) o.line) same;
        entries_are = made.entries_are ∙ ap (λ l. o.entries ++ entries_at items o.line.size l) same;
        counts_are = counted;
      }

  -- how many entries it has
  pub put_count : (all : List InspectEntry) (a b : Code) (o p : Entries) → Puts items all a b o p
      → length p.entries - length o.entries ≡ length all
  put_count all a b o p made =
      let long = ap length made.entries_are in
      let sum = length-append o.entries (entries_at items o.line.size all) in
      let same = so_many items o.line.size all in
      omega (arith, long, sum, same)

  pub counts_none : (code : Code) (o : Entries) (old : List ℕ) → Counts items [] code code o o old old
  counts_none code o old = record {
    code = takes_none code;
    line_is = line_none o.line;
    entries_are = sym (append-nil o.entries);
    counts_are = sym (append-nil old);
  }

  module _ (all : List Tallying) (i : ℕ) where
    counts_both : (xs ys : List Tallying) (a b c : Code) (o p q : Entries) (x y z : List ℕ)
        → Counts items xs a b o p x y → Counts items ys b c p q y z
        → Counts items (xs ++ ys) a c o q x z
    counts_both xs ys a b c o p q x y z first second =
        let us = all_inspected counter_entries xs in
        let vs = all_inspected counter_entries ys in
        let n = o.line.size in
        let m = p.line.size in
        let size = ap (λ (l : TextLine). l.size) first.line_is in
        let same = sym (all_inspected_append counter_entries xs ys) in
        let line = line_both (entries_texts us) (entries_texts vs) o.line p.line q.line first.line_is second.line_is in
        record {
          code = takes_same (tallying_takings xs ++ tallying_takings ys) (tallying_takings (xs ++ ys)) a c
              (sym (takings_append xs ys))
              (takes_both (tallying_takings xs) (tallying_takings ys) a b c first.code second.code);
          line_is = line ∙ ap (λ l. line_after items l o.line) (sym (texts_append us vs))
              ∙ ap (λ l. line_after items (entries_texts l) o.line) same;
          entries_are = second.entries_are ∙ ap (λ l. l ++ entries_at items m vs) first.entries_are
              ∙ append_assoc o.entries (entries_at items n us) (entries_at items m vs)
              ∙ ap (λ s. o.entries ++ (entries_at items n us ++ entries_at items s vs)) size
              ∙ ap (λ l. o.entries ++ l) (sym (entries_append items n us vs))
              ∙ ap (λ l. o.entries ++ entries_at items n l) same;
          counts_are = second.counts_are ∙ ap (λ l. l ++ entry_counts ys) first.counts_are
              ∙ append_assoc x (entry_counts xs) (entry_counts ys) ∙ ap (λ l. x ++ l) (sym (counts_append xs ys));
        }

    pub counts_more : (one : Tallying) → i < length all → one ≡ get_or all i one
        → (a b c : Code) (o p q : Entries) (x y z : List ℕ)
        → Counts items (take i all) a b o p x y → Counts items (one ∷ []) b c p q y z
        → Counts items (take (i + 1) all) a c o q x z
    counts_more one within is a b c o p q x y z first second =
        let more : take (i + 1) all ≡ take i all ++ one ∷ [] =
        take_more all i one within ∙ ap (λ t. take i all ++ t ∷ []) (sym is) in
        subst (λ l. Counts items l a c o q x z) (sym more)
        (counts_both (take i all) (one ∷ []) a b c o p q x y z first second)

    pub counts_all : (a b : Code) (o p : Entries) (x y : List ℕ) → length all ≤ i
        → Counts items (take i all) a b o p x y → Counts items all a b o p x y
    counts_all a b o p x y le first = subst (λ l. Counts items l a b o p x y) (take_all i all le) first

  -- ---- the whole

  pub inspect_made : (one : InspectStatement) (a b c d e : Code) (counts others : List ℕ) (o p r q : Entries)
      → b ≡ append a (reference_fragment items one.subject a)
      → others ≡ [] → o.line ≡ nothing → o.entries ≡ [] → r.line ≡ p.line → r.entries ≡ []
      → Counts items one.tallying b c o p others counts → Puts items (all_replaced items one) c d r q
      → e ≡ append d (inspection_fragment
      (record { size = q.line.size; counters = counts; tallying = p.entries; replacing = q.entries })
      (q.line.measured + q.line.measured) d)
      → e ≡ append a (inspect_fragment items one a)
  inspect_made one a b c d e counts others o p r q subject none_counted begins none_tallied goes_on none_replaced
      tallying replacing last =
      let all = takings items one in
      let tallied = tallying_takings one.tallying in
      let texts = map Text (entries_texts (all_replaced items one)) in
      let parts = takings_fragment items all in
      let taken = takes_both tallied texts b c d tallying.code replacing.code in
      let us = all_inspected counter_entries one.tallying in
      let vs = all_replaced items one in
      let sum = sizes_append items (entries_texts us) (entries_texts vs) in
      let line = line_both (entries_texts us) (entries_texts vs) nothing p.line q.line
      (tallying.line_is ∙ ap (line_after items (entries_texts us)) begins)
      (replacing.line_is ∙ ap (line_after items (entries_texts vs)) goes_on) in
      let goes = ap (λ (l : TextLine). l.size) goes_on in
      let tallies = ap (λ (l : TextLine). l.size) tallying.line_is in
      let starts = ap (λ (l : TextLine). l.size) begins in
      let behind : r.line.size ≡ tallied_size items one = omega (arith, goes, tallies, starts) in
      let whole = inspected_whole items one in
      let numbers = measured_whole items one in
      let entry = inspection_entry items one in
      let size = ap (λ (l : TextLine). l.size) line in
      let measured = ap (λ (l : TextLine). l.measured) line in
      let same = made_inspection q.line.size entry.size counts entry.counters p.entries entry.tallying q.entries
      entry.replacing (omega (arith, size, whole, sum))
      (tallying.counts_are ∙ ap (λ l. l ++ entry_counts one.tallying) none_counted)
      (tallying.entries_are ∙ ap (λ l. l ++ entries_at items o.line.size us) none_tallied
      ∙ ap (λ (l : TextLine). entries_at items l.size us) begins)
      (replacing.entries_are ∙ ap (λ l. l ++ entries_at items r.line.size vs) none_replaced
      ∙ ap (λ s. entries_at items s vs) behind) in
      let so_many : q.line.measured + q.line.measured ≡ taken_numbers items all = omega (arith, measured, numbers) in
      then_piece (reference_fragment items one.subject)
      (sequence parts (inspection_fragment entry (taken_numbers items all))) a b e subject
      (then_piece parts (inspection_fragment entry (taken_numbers items all)) b d e taken
      (last ∙ ap (λ (i : Inspection). append d (inspection_fragment i (q.line.measured + q.line.measured) d)) same
      ∙ ap (λ n. append d (inspection_fragment entry n d)) so_many))

  -- the same where a call may have failed, with the lists of TALLYING and REPLACING as they were read
  pub inspect_emitted : {T E : Type 0} (result : Result T E) (one : InspectStatement) (counted : List Tallying)
      (replaced : List Replacing) (a b c d e : Code) (counts others : List ℕ) (x y : List Entry) (p q : Entries)
      → counted ≡ one.tallying → replaced ≡ one.replacing
      → b ≡ append a (reference_fragment items one.subject a) → others ≡ [] → x ≡ [] → y ≡ []
      → Counts items counted b c (record { line = nothing; entries = x }) p others counts
      → Puts items (all_inspected (replacing_entries items) replaced) c d (record { line = p.line; entries = y }) q
      → OnOk result (e ≡ append d (inspection_fragment
      (record { size = q.line.size; counters = counts; tallying = p.entries; replacing = q.entries })
      (q.line.measured + q.line.measured) d))
      → OnOk result (e ≡ append a (inspect_fragment items one a))
  inspect_emitted result one counted replaced a b c d e counts others x y p q of_tallying of_replacing subject
      none_counted none_tallied none_replaced counting putting last =
      let begins : Entries = record { line = nothing; entries = x } in
      let goes_on : Entries = record { line = p.line; entries = y } in
      let counts_are = subst (λ l. Counts items l b c begins p others counts) of_tallying counting in
      let puts_are = subst (λ l. Puts items (all_inspected (replacing_entries items) l) c d goes_on q) of_replacing
      putting in
      on_ok result last (λ h. inspect_made one a b c d e counts others begins p goes_on q subject none_counted refl
      none_tallied refl none_replaced counts_are puts_are h)

  -- ---- the whole of CONVERTING

  pub convert_made : (one : Converting) (a b d e : Code) (counts : List ℕ) (p : List Entry) (r q : Entries)
      → b ≡ append a (reference_fragment items one.subject a)
      → counts ≡ [] → p ≡ [] → r.line ≡ nothing → r.entries ≡ []
      → Puts items (replaced_text items how.All one.texts ∷ []) b d r q
      → e ≡ append d (conversion_fragment
      (record { size = q.line.size; counters = counts; tallying = p; replacing = q.entries })
      (q.line.measured + q.line.measured) d)
      → e ≡ append a (convert_fragment items one a)
  convert_made one a b d e counts p r q subject none_counted none_tallied begins none_replaced puts last =
      let all : List InspectEntry = replaced_text items how.All one.texts ∷ [] in
      let texts = takings items (as_replacing one) in
      let parts = takings_fragment items texts in
      let entry = inspection_entry items (as_replacing one) in
      let whole : entry.size ≡ 0 + text_sizes items (entries_texts all) = inspected_whole items (as_replacing one) in
      let line = puts.line_is ∙ ap (line_after items (entries_texts all)) begins in
      let size = ap (λ (l : TextLine). l.size) line in
      let measured : q.line.measured ≡ 0 + measured_texts items texts = ap (λ (l : TextLine). l.measured) line in
      let same = made_inspection q.line.size entry.size counts entry.counters p entry.tallying q.entries entry.replacing
      (omega (arith, size, whole)) none_counted none_tallied
      (puts.entries_are ∙ ap (λ l. l ++ entries_at items r.line.size all) none_replaced
      ∙ ap (λ (l : TextLine). entries_at items l.size all) begins) in
      let so_many : q.line.measured + q.line.measured ≡ taken_numbers items texts = omega (arith, measured) in
      then_piece (reference_fragment items one.subject)
      (sequence parts (conversion_fragment entry (taken_numbers items texts))) a b e subject
      (then_piece parts (conversion_fragment entry (taken_numbers items texts)) b d e puts.code
      (last ∙ ap (λ (i : Inspection). append d (conversion_fragment i (q.line.measured + q.line.measured) d)) same
      ∙ ap (λ n. append d (conversion_fragment entry n d)) so_many))
