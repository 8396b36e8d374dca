mod Reports
mod Lines
mod Tables
